mod Beginning
