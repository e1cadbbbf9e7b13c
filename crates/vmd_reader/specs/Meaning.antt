-- What the types of the reader mean in the terms of the format, by cases. Definitions only.
use Rattle.std.specs.Prelude.{ℕ}
use Rattle.vmd_format.specs.Opening.{Opening}
use Rattle.vmd_format.specs.Fetch.{PropertyStep}
use Rattle.vmd_records.specs.Fields.{property_fields}
use Rattle.vmd_scan.specs.Meaning.{scan_is}
use Rattle.vmd_records.specs.declared.VmdParsedPropertyFrame.{VmdParsedPropertyFrame}
use Rattle.vmd_reader.specs.declared.VmdOpening.{VmdOpening}

abbrev pub opening_is : VmdOpening → Opening
opening_is o = record { scan = scan_is o.sections; smallest_frame = o.min_frame; largest_frame = o.max_frame }

-- the fields of a property frame, and the place of the next one
abbrev pub step_fields : PropertyStep → VmdParsedPropertyFrame × ℕ
step_fields x = (property_fields x.head, x.next)
