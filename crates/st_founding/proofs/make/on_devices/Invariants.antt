use Rattle.st_founding.proofs.make.on_devices.Given as goal

abbrev pub ghost-new : goal.ghost-new
ghost-new a = record a.first.now.value { devices = a.second.now }
