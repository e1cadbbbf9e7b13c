use Rattle.std.proofs.Common.{◌≡◌, ◌∙◌, sym, arith, drop}
use Rattle.vmd_bytes.proofs.Laws.{splice_nil}
use Rattle.vmd_format.specs.Read.{table, write_all}
use Rattle.vmd_laws.specs.SizedLaws.{section_length}
use Rattle.vmd_writers.proofs.Records.{one_more, each_turn, section_room}
use Rattle.vmd_writers.proofs.write_each.Goals as goal

pub loop-init : goal.loop-init
unfolding table write_all
loop-init g c = (omega arith, omega arith, sym (splice_nil c.args.out.now c.args.to))

pub write_one-requires : goal.write_one-requires
write_one-requires g c =
    let s = c.args in
    let i = c.loop.invariant in
    let k = one_more g.R.VmdRecord.SIZE c.loop-test.true in
    let r = section_room g.met.R.VmdRecord.sized s.src.now s.out.now s.at s.to s.n c.requires.0 c.requires.1 in
    (omega (arith, k, i.0, c.requires.0), omega (arith, k, r, i.1, c.loop.auto.out))

pub overflow_add-p : goal.overflow_add-p
overflow_add-p g c =
    let k = one_more g.R.VmdRecord.SIZE c.loop-test.true in
    omega (arith, k, c.loop.invariant.0, c.requires.0, c.SIZE-p.ensures)

pub overflow_add-q : goal.overflow_add-q
overflow_add-q g c =
    let s = c.args in
    let k = one_more g.R.VmdRecord.SIZE c.loop-test.true in
    let r = section_room g.met.R.VmdRecord.sized s.src.now s.out.now s.at s.to s.n c.requires.0 c.requires.1 in
    omega (arith, k, r, c.loop.invariant.1, c.SIZE-q.ensures)

pub loop-preserved : goal.loop-preserved
loop-preserved g c =
    let s = c.args in
    let i = c.loop.invariant in
    let z = g.met.R.VmdRecord.sized in (
      omega (arith, i.0, c.SIZE-p.ensures),
      omega (arith, i.1, c.SIZE-q.ensures),
      each_turn z s.src.now s.out.now s.at s.to c.loop.counter s.n c.loop-test.true
          (section_room z s.src.now s.out.now s.at s.to s.n c.requires.0 c.requires.1)
          i.2
          (rw (i.0, i.1) at c.write_one.ensures),
    )

pub returns : goal.returns
returns g c =
    let s = c.args in
    let i = c.loop.invariant in
    let e : c.loop.counter ≡ s.n = omega arith in
    record {
      holds = rw e at i.2;
      ends = i.1 ∙ rw (e, section_length g.met.R.VmdRecord.sized s.n (drop s.at s.src.now));
    }
