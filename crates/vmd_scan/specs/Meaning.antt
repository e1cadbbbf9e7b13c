-- What the types of the code mean in the terms of the format, by cases. Definitions only.
use Rattle.std.specs.Prelude.{ℕ, Option, Some, None}
use Rattle.vmd_base.specs.declared.VmdRefusal.{VmdRefusal}
use Rattle.vmd_base.specs.declared.VmdSection.{VmdSection}
use Rattle.vmd_base.specs.declared.VmdCounts.{VmdCounts}
use Rattle.vmd_base.specs.Meaning.{refusal_of, extent_is}
use Rattle.vmd_format.specs.Read as format
use Rattle.vmd_format.specs.Opening.{Scan}
use Rattle.vmd_laws.specs.Places.{Span, Walk}
use Rattle.vmd_records.specs.declared.VmdKind.{VmdKind}
use Rattle.vmd_records.specs.declared.VmdKind.TheVariants as kind
use Rattle.vmd_scan.specs.Stages.{Numbered, Front, Back}
use Rattle.vmd_scan.specs.declared.VmdSections.{VmdSections}
use Rattle.vmd_scan.specs.declared.ByteReader.{ByteReader}
use Rattle.vmd_scan.specs.declared.VmdWalk.{VmdWalk}
use Rattle.vmd_scan.specs.declared.FrontSections.{FrontSections}
use Rattle.vmd_scan.specs.declared.BackSections.{BackSections}

abbrev pub scan_is : VmdSections → Scan
scan_is x = record {
  bones = extent_is x.bones;
  morphs = extent_is x.morphs;
  cameras = extent_is x.cameras;
  lights = extent_is x.lights;
  self_shadows = extent_is x.self_shadows;
  properties = extent_is x.properties;
  ik_states = x.ik_states;
}

-- the section of the records of a kind
abbrev pub section_of : VmdKind → VmdSections → VmdSection
section_of kind.Bone x = x.bones
section_of kind.Morph x = x.morphs
section_of kind.Camera x = x.cameras
section_of kind.Light x = x.lights
section_of kind.SelfShadow x = x.self_shadows

abbrev pub counts_in : VmdSections → VmdCounts
counts_in x = record {
  bones = x.bones.count;
  morphs = x.morphs.count;
  cameras = x.cameras.count;
  lights = x.lights.count;
  self_shadows = x.self_shadows.count;
  properties = x.properties.count;
}

-- ---- the manner of reading

abbrev pub oversized_of : Option VmdRefusal → format.Oversized
oversized_of (Some k) = format.refuse (refusal_of k)
oversized_of None = format.emptied

abbrev pub over_of : Option VmdRefusal → format.BytesOver
over_of None = format.ignored
over_of (Some k) = format.turned_down (refusal_of k)

-- ---- values, each with the reader after it

abbrev pub number_is : ℕ × ByteReader → Numbered
number_is x = record { value = x.0; next = x.1.pos }

abbrev pub optional_is : Option (ℕ × ByteReader) → Option Numbered
optional_is None = None
optional_is (Some x) = Some (number_is x)

abbrev pub span_is : VmdSection × ByteReader → Span
span_is x = record { count = x.0.count; place = x.0.place; next = x.1.pos }

abbrev pub walk_is : VmdWalk → Walk
walk_is w = record { next = w.next; ik_states = w.ik_states }

abbrev pub front_is : FrontSections → Front
front_is x = record { bones = extent_is x.bones; morphs = extent_is x.morphs; cameras = extent_is x.cameras; next = x.next.pos }

abbrev pub back_is : BackSections → Back
back_is x = record { lights = extent_is x.lights; self_shadows = extent_is x.self_shadows; properties = extent_is x.properties }
