-- What a device shows.
use Rattle.std.specs.Prelude.{ℕ}
use Rattle.st_header.specs.Header.{header_of}
use Rattle.st_rack.specs.Device.{Path, Image, cells}
use Rattle.st_image.specs.Looks.{slot_on}
use Rattle.st_looks.specs.declared.look.DevLook.{DevLook}

-- a device with its sectors, as it is read in this image
abbrev pub looked : Image → Path × ℕ → DevLook
looked c d = record { path = d.0; sectors = d.1; header = header_of d.1 (cells (c d.0) 0 8192); even = slot_on d.1 0 (c d.0); odd = slot_on d.1 1 (c d.0) }
