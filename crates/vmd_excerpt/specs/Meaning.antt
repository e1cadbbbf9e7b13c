-- What the types of the code mean in the terms of the format. Definitions only.
use Rattle.std.specs.Prelude.{ℕ, List}
use Rattle.vmd_format.specs.Take.{write_take}
use Rattle.vmd_laws.specs.ExportLaws.{take_in}
use Rattle.vmd_scan.specs.Meaning.{scan_is}
use Rattle.vmd_framed.specs.Excerpt.{excerpt}
use Rattle.vmd_excerpt.specs.declared.VmdExcerpt.{VmdExcerpt}

-- the bytes of an excerpt
abbrev pub bytes_of : VmdExcerpt → List ℕ
bytes_of e = write_take (excerpt e.span.first e.span.last (take_in e.take.file.now (scan_is e.take.sections)))
