mod Wide
