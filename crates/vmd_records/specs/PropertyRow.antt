-- A property frame without its IK states as a layout: its nine bytes read and written. Definitions only.
use Rattle.vmd_format.specs.Layout.{Layout, number, flag, ◌⊗◌}
use Rattle.vmd_format.specs.Fetch.{PropertyHead, property_at}

abbrev pub property_row : Layout PropertyHead
property_row = record {
  size = 9;
  decode = λ s. property_at s 0;
  encode = λ p. (number ⊗ flag ⊗ number).encode (p.frame, (p.visible, p.ik_count));
}
