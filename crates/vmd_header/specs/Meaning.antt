-- What a header means in the terms of the format. Definitions only.
use Rattle.vmd_laws.specs.Places.{HeaderPlaces}
use Rattle.vmd_header.specs.declared.VmdHeader.{VmdHeader}

abbrev pub header_is : VmdHeader → HeaderPlaces
header_is h = record { name = h.name; width = h.width; sections = h.sections }
