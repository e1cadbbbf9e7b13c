use Rattle.std.proofs.Common.{◌≡◌, ◌+◌, ◌*◌, ◌/◌, true, sym, refl, ◌∙◌, arith}
use Rattle.vmd_bytes.proofs.Laws.{name_start, live_start, name_turn, live_turn, name_whole}
use Rattle.vmd_bytes.proofs.write_name.Goals as goal

pub loop-k-init : goal.loop-k-init
loop-k-init c = (refl, sym (live_start _ _ true), sym (name_start _ _ _ _ true))

pub loop-k-preserved : goal.loop-k-preserved
loop-k-preserved c =
    let s = c.args in
    let h = c.loop-k.invariant in
    let i = 8 * c.loop-k.k in
    let e : 8 * (c.loop-k.k + 1) ≡ i + 8 = omega arith in (
      omega (arith, c.put_word.auto.out),
      rw e (c.live_after_word-live.ensures ∙ rw (c.word_at-x.ensures, h.1) (live_turn s.src.now s.at i 8 true)),
      rw e (
          c.put_word.ensures
          ∙ rw (c.canonical_word.ensures, c.word_at-x.ensures, h.1, h.2)
          (name_turn s.src.now s.out.now s.at s.to i 8 true (omega arith) (omega arith))
          ),
    )

pub returns : goal.returns
returns c =
    let s = c.args in
    let i = 8 * (s.width / 8) in
    let e : 8 * c.loop-k.k ≡ i = omega arith in
    let live = rw e at c.loop-k.invariant.1 in
    let out = rw e at c.loop-k.invariant.2 in
    c.write_name_end.ensures ∙ rw (out, live) (name_whole s.src.now s.out.now s.at s.to i s.width (omega arith) (omega arith) (omega arith))
