-- `vmd_presence::VmdPresence::has_character` meets its contract. Assumes nothing.
use borrow.Author.Rules.{rules}
use Rattle.vmd_format.specs.Characters.{between}
use Rattle.vmd_presence.proofs.Table.{in_table, outside}
use Rattle.vmd_presence.proofs.VmdPresence.has_character.Goals as goal

pub returns-then-bit_at : goal.returns-then-bit_at
returns-then-bit_at c = in_table c.args.self.now.right _ c.requires c.bit_at.ensures c.if-bit_at.true

pub returns-in-8836-to-10715 : goal.returns-in-8836-to-10715
unfolding between
returns-in-8836-to-10715 c =
    outside c.args.self.now.right _ c.requires c.bit_at.ensures c.if-bit_at.false (search rules)

pub returns-in_default : goal.returns-in_default
unfolding between
returns-in_default c =
    outside c.args.self.now.right _ c.requires c.bit_at.ensures c.if-bit_at.false (search rules)

pub returns-in_default-2 : goal.returns-in_default-2
unfolding between
returns-in_default-2 c =
    outside c.args.self.now.right _ c.requires c.bit_at.ensures c.if-bit_at.false (search rules)
