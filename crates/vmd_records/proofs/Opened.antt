-- One name that unfolds the layouts of the records and what each struct holds of its record. Assumes nothing.
use Rattle.vmd_format.specs.Layout.{number, byte, flag, inverted, name, raw, ◌⊗◌, as_record}
use Rattle.vmd_format.specs.Records.{bone, morph, camera, light, self_shadow, ik_state, property_head}
use Rattle.vmd_format.specs.Fetch.{property_at}
use Rattle.vmd_records.specs.Fields.{bone_fields, morph_fields, camera_fields, light_floats, light_bits, self_shadow_fields, property_fields, ik_fields}

unfoldable pub opened : Unit {0}
unfolding number byte flag inverted name raw ◌⊗◌ as_record bone morph camera light self_shadow ik_state property_head property_at bone_fields morph_fields camera_fields light_floats light_bits self_shadow_fields property_fields ik_fields
opened = tt
