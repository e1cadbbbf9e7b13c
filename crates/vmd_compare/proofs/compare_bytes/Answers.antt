-- `vmd_compare::compare_bytes` meets its contract. Assumes nothing.
use mathlib.Core.Path.{sym, ap, ◌∙◌}
use Prim.Native.Nat.{◌-◌}
use lib.ListN.{length, take, drop}
use Rattle.std.proofs.Common.{rules, tests}
use Rattle.std.proofs.lemmas.Iterator.{YieldsList-from_slice, YieldsList-from_zip}
use Rattle.std.proofs.lemmas.Iterator.Search.{position_from_yields_List}
use Rattle.vmd_compare.proofs.Places.{are_unlike, told, bytes_rest, bytes_short, bytes_whole, bytes_told}
use Rattle.vmd_compare.proofs.compare_bytes.Goals as goal

pub returns-in-Some : goal.returns-in-Some
returns-in-Some c =
    let a = c.args in
    let found = position_from_yields_List are_unlike c.position.new.self _ c.position.result c.position.ensures.ran
    (YieldsList-from_zip (YieldsList-from_slice (take (length a.file.now - a.at) (drop a.at a.file.now)) cc) (YieldsList-from_slice a.bytes.now cc))
    (λ x b q k. search (rules, tests)) in
    ap (λ r. told r a.at (bytes_rest a.at (drop a.at a.file.now) a.bytes.now)) (sym c.in-Some.is) ∙ bytes_told a.file.now a.at _ a.bytes.now c.requires found

pub returns-in-None : goal.returns-in-None
returns-in-None c =
    let a = c.args in
    let found = position_from_yields_List are_unlike c.position.new.self _ c.position.result c.position.ensures.ran
    (YieldsList-from_zip (YieldsList-from_slice (take (length a.file.now - a.at) (drop a.at a.file.now)) cc) (YieldsList-from_slice a.bytes.now cc))
    (λ x b q k. search (rules, tests)) in
    bytes_short a.file.now a.at a.bytes.now c.requires c.if-rest-bytes.true
    ∙ ap (λ r. told r a.at (bytes_rest a.at (drop a.at a.file.now) a.bytes.now)) (sym c.in-None.is) ∙ bytes_told a.file.now a.at _ a.bytes.now c.requires found

pub returns-in-None-2 : goal.returns-in-None-2
returns-in-None-2 c =
    let a = c.args in
    let found = position_from_yields_List are_unlike c.position.new.self _ c.position.result c.position.ensures.ran
    (YieldsList-from_zip (YieldsList-from_slice (take (length a.file.now - a.at) (drop a.at a.file.now)) cc) (YieldsList-from_slice a.bytes.now cc))
    (λ x b q k. search (rules, tests)) in
    bytes_whole a.file.now a.at a.bytes.now c.requires c.if-rest-bytes.false
    ∙ ap (λ r. told r a.at (bytes_rest a.at (drop a.at a.file.now) a.bytes.now)) (sym c.in-None.is) ∙ bytes_told a.file.now a.at _ a.bytes.now c.requires found
