-- What the types of tidying mean. Definitions only.
use Rattle.vmd_base.specs.declared.VmdCounts.{VmdCounts}
use Rattle.vmd_tidy.specs.Tidied.{Counts, Report}
use Rattle.vmd_tidy.specs.declared.VmdTidied.{VmdTidied}

abbrev pub counts_are : VmdCounts → Counts
counts_are k = record {
  bones = k.bones;
  morphs = k.morphs;
  cameras = k.cameras;
  lights = k.lights;
  self_shadows = k.self_shadows;
  properties = k.properties;
}

abbrev pub report_is : VmdTidied → Report
report_is t = record { bytes = t.bytes; kept = counts_are t.kept; dropped = counts_are t.dropped }
