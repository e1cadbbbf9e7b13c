-- Files joined: the original's export of the records that it reads in both, one after the other.
-- Written by oracle/samples.sh from the original's answers, not by hand.
use Rattle.std.specs.Prelude.{ℕ, List, [], ◌∷◌, ◌++◌, take, drop, replicate, T}
use Rattle.vmd_format.specs.Computed.{computed, counting}
use Rattle.vmd_answers.specs.Said.{join_refuses, joins, empty, six, six_out}

abbrev pub nothing : List ℕ
nothing = take 54 empty

abbrev pub named : List ℕ
named = take 30 empty ++ (78 ∷ 97 ∷ 109 ∷ 101 ∷ 0 ∷ []) ++ replicate 15 88 ++ replicate 4 0

abbrev pub two_bones : List ℕ
two_bones = take 31 empty ++ replicate 19 88 ++ (2 ∷ 0 ∷ 0 ∷ 0 ∷ 66 ∷ 0 ∷ []) ++ replicate 13 88 ++ (2 ∷ 0 ∷ 0 ∷ 0 ∷ 1 ∷ 0 ∷ 128 ∷ 127 ∷ 0 ∷ 0 ∷ 0 ∷ 128 ∷ 1 ∷ 0 ∷ 0 ∷ 0 ∷ 1 ∷ 0 ∷ 192 ∷ 255 ∷ 0 ∷ 0 ∷ 128 ∷ 127 ∷ 0 ∷ 0 ∷ 128 ∷ []) ++ replicate 4 255 ++ (127 ∷ []) ++ counting 48 64 ++ (0 ∷ []) ++ replicate 14 88 ++ (1 ∷ 0 ∷ 0 ∷ 0 ∷ 1 ∷ 0 ∷ 128 ∷ 127 ∷ 0 ∷ 0 ∷ 0 ∷ 128 ∷ 1 ∷ 0 ∷ 0 ∷ 0 ∷ 1 ∷ 0 ∷ 192 ∷ 255 ∷ 0 ∷ 0 ∷ 128 ∷ 127 ∷ 0 ∷ 0 ∷ 128 ∷ []) ++ replicate 4 255 ++ (127 ∷ []) ++ counting 48 64 ++ replicate 4 0

abbrev pub a_morph : List ℕ
a_morph = take 31 six_out ++ (111 ∷ 114 ∷ 112 ∷ 104 ∷ 0 ∷ []) ++ replicate 14 88 ++ replicate 4 0 ++ (1 ∷ 0 ∷ 0 ∷ 0 ∷ 77 ∷ 0 ∷ []) ++ replicate 13 88 ++ (3 ∷ 0 ∷ 0 ∷ 0 ∷ 1 ∷ 0 ∷ 128 ∷ 127 ∷ [])

abbrev pub a_camera : List ℕ
a_camera = take 50 two_bones ++ replicate 8 0 ++ (1 ∷ 0 ∷ 0 ∷ 0 ∷ 6 ∷ []) ++ replicate 6 0 ++ (128 ∷ 1 ∷ 0 ∷ 0 ∷ 0 ∷ 1 ∷ 0 ∷ 192 ∷ 255 ∷ 0 ∷ 0 ∷ 128 ∷ 127 ∷ 0 ∷ 0 ∷ 128 ∷ []) ++ replicate 4 255 ++ (127 ∷ []) ++ replicate 4 0 ++ counting 1 24 ++ (45 ∷ 0 ∷ 0 ∷ 0 ∷ 255 ∷ []) ++ replicate 12 0

abbrev pub legs : List ℕ
legs = take 30 empty ++ (76 ∷ 101 ∷ 103 ∷ 115 ∷ 0 ∷ []) ++ replicate 15 88 ++ replicate 20 0 ++ (2 ∷ 0 ∷ 0 ∷ 0 ∷ 8 ∷ 0 ∷ 0 ∷ 0 ∷ 1 ∷ 2 ∷ 0 ∷ 0 ∷ 0 ∷ 76 ∷ 0 ∷ []) ++ replicate 18 88 ++ (0 ∷ 82 ∷ 0 ∷ []) ++ replicate 18 88 ++ (2 ∷ 9 ∷ []) ++ drop 66 empty

abbrev pub oversized : List ℕ
oversized = take 30 legs ++ (79 ∷ 118 ∷ 101 ∷ 114 ∷ 0 ∷ []) ++ replicate 15 88 ++ replicate 8 0 ++ (2 ∷ 0 ∷ 0 ∷ 0 ∷ 9 ∷ []) ++ replicate 5 0 ++ (128 ∷ 63 ∷ 0 ∷ 0 ∷ 0 ∷ 192 ∷ 0 ∷ 0 ∷ 0 ∷ 63 ∷ 255 ∷ 255 ∷ 127 ∷ 127 ∷ 1 ∷ []) ++ replicate 5 0 ++ (128 ∷ 63 ∷ [])

abbrev pub cut : List ℕ
cut = take 57 empty

abbrev pub other_magic : List ℕ
other_magic = take 24 empty ++ (51 ∷ []) ++ drop 25 empty

pub nothing_and_nothing : T (joins nothing nothing empty)
unfolding computed
nothing_and_nothing = tt

pub nothing_and_named : T (joins nothing named (take 35 named ++ replicate 39 0))
unfolding computed
nothing_and_named = tt

pub nothing_and_two_bones : T (joins nothing two_bones (take 50 cut ++ (2 ∷ 0 ∷ 0 ∷ 0 ∷ 66 ∷ []) ++ replicate 14 0 ++ (2 ∷ 0 ∷ 0 ∷ 0 ∷ 1 ∷ 0 ∷ 128 ∷ 127 ∷ 0 ∷ 0 ∷ 0 ∷ 128 ∷ 1 ∷ 0 ∷ 0 ∷ 0 ∷ 1 ∷ 0 ∷ 192 ∷ 255 ∷ 0 ∷ 0 ∷ 128 ∷ 127 ∷ 0 ∷ 0 ∷ 128 ∷ []) ++ replicate 4 255 ++ (127 ∷ []) ++ counting 48 64 ++ replicate 15 0 ++ (1 ∷ 0 ∷ 0 ∷ 0 ∷ 1 ∷ 0 ∷ 128 ∷ 127 ∷ 0 ∷ 0 ∷ 0 ∷ 128 ∷ 1 ∷ 0 ∷ 0 ∷ 0 ∷ 1 ∷ 0 ∷ 192 ∷ 255 ∷ 0 ∷ 0 ∷ 128 ∷ 127 ∷ 0 ∷ 0 ∷ 128 ∷ []) ++ replicate 4 255 ++ (127 ∷ []) ++ counting 48 64 ++ replicate 20 0))
unfolding computed
nothing_and_two_bones = tt

pub nothing_and_a_morph : T (joins nothing a_morph (take 36 a_morph ++ replicate 18 0 ++ (1 ∷ 0 ∷ 0 ∷ 0 ∷ 77 ∷ []) ++ replicate 14 0 ++ (3 ∷ 0 ∷ 0 ∷ 0 ∷ 1 ∷ 0 ∷ 128 ∷ 127 ∷ []) ++ replicate 16 0))
unfolding computed
nothing_and_a_morph = tt

pub nothing_and_a_camera : T (joins nothing a_camera (cut ++ (0 ∷ 1 ∷ 0 ∷ 0 ∷ 0 ∷ 6 ∷ []) ++ replicate 6 0 ++ (128 ∷ 1 ∷ 0 ∷ 0 ∷ 0 ∷ 1 ∷ 0 ∷ 192 ∷ 255 ∷ 0 ∷ 0 ∷ 128 ∷ 127 ∷ 0 ∷ 0 ∷ 128 ∷ []) ++ replicate 4 255 ++ (127 ∷ []) ++ replicate 4 0 ++ counting 1 24 ++ (45 ∷ 0 ∷ 0 ∷ 0 ∷ 1 ∷ []) ++ replicate 12 0))
unfolding computed
nothing_and_a_camera = tt

pub nothing_and_legs : T (joins nothing legs (take 35 legs ++ replicate 35 0 ++ (2 ∷ 0 ∷ 0 ∷ 0 ∷ 8 ∷ 0 ∷ 0 ∷ 0 ∷ 1 ∷ 2 ∷ 0 ∷ 0 ∷ 0 ∷ 76 ∷ []) ++ replicate 20 0 ++ (82 ∷ []) ++ replicate 19 0 ++ (1 ∷ []) ++ drop 125 legs))
unfolding computed
nothing_and_legs = tt

pub nothing_and_oversized : T (joins nothing oversized (take 35 oversized ++ replicate 39 0))
unfolding computed
nothing_and_oversized = tt

pub nothing_and_cut : T (join_refuses nothing cut 1)
unfolding computed
nothing_and_cut = tt

pub nothing_and_other_magic : T (join_refuses nothing other_magic 2)
unfolding computed
nothing_and_other_magic = tt

pub nothing_and_six : T (joins nothing six six_out)
unfolding computed
nothing_and_six = tt

pub named_and_nothing : T (joins named nothing (take 35 named ++ replicate 39 0))
unfolding computed
named_and_nothing = tt

pub named_and_named : T (joins named named (take 35 named ++ replicate 39 0))
unfolding computed
named_and_named = tt

pub named_and_two_bones : T (joins named two_bones (take 35 named ++ replicate 15 0 ++ (2 ∷ 0 ∷ 0 ∷ 0 ∷ 66 ∷ []) ++ replicate 14 0 ++ (2 ∷ 0 ∷ 0 ∷ 0 ∷ 1 ∷ 0 ∷ 128 ∷ 127 ∷ 0 ∷ 0 ∷ 0 ∷ 128 ∷ 1 ∷ 0 ∷ 0 ∷ 0 ∷ 1 ∷ 0 ∷ 192 ∷ 255 ∷ 0 ∷ 0 ∷ 128 ∷ 127 ∷ 0 ∷ 0 ∷ 128 ∷ []) ++ replicate 4 255 ++ (127 ∷ []) ++ counting 48 64 ++ replicate 15 0 ++ (1 ∷ 0 ∷ 0 ∷ 0 ∷ 1 ∷ 0 ∷ 128 ∷ 127 ∷ 0 ∷ 0 ∷ 0 ∷ 128 ∷ 1 ∷ 0 ∷ 0 ∷ 0 ∷ 1 ∷ 0 ∷ 192 ∷ 255 ∷ 0 ∷ 0 ∷ 128 ∷ 127 ∷ 0 ∷ 0 ∷ 128 ∷ []) ++ replicate 4 255 ++ (127 ∷ []) ++ counting 48 64 ++ replicate 20 0))
unfolding computed
named_and_two_bones = tt

pub named_and_a_morph : T (joins named a_morph (take 35 named ++ replicate 19 0 ++ (1 ∷ 0 ∷ 0 ∷ 0 ∷ 77 ∷ []) ++ replicate 14 0 ++ (3 ∷ 0 ∷ 0 ∷ 0 ∷ 1 ∷ 0 ∷ 128 ∷ 127 ∷ []) ++ replicate 16 0))
unfolding computed
named_and_a_morph = tt

pub named_and_a_camera : T (joins named a_camera (take 35 named ++ replicate 23 0 ++ (1 ∷ 0 ∷ 0 ∷ 0 ∷ 6 ∷ []) ++ replicate 6 0 ++ (128 ∷ 1 ∷ 0 ∷ 0 ∷ 0 ∷ 1 ∷ 0 ∷ 192 ∷ 255 ∷ 0 ∷ 0 ∷ 128 ∷ 127 ∷ 0 ∷ 0 ∷ 128 ∷ []) ++ replicate 4 255 ++ (127 ∷ []) ++ replicate 4 0 ++ counting 1 24 ++ (45 ∷ 0 ∷ 0 ∷ 0 ∷ 1 ∷ []) ++ replicate 12 0))
unfolding computed
named_and_a_camera = tt

pub named_and_legs : T (joins named legs (take 35 named ++ replicate 35 0 ++ (2 ∷ 0 ∷ 0 ∷ 0 ∷ 8 ∷ 0 ∷ 0 ∷ 0 ∷ 1 ∷ 2 ∷ 0 ∷ 0 ∷ 0 ∷ 76 ∷ []) ++ replicate 20 0 ++ (82 ∷ []) ++ replicate 19 0 ++ (1 ∷ 9 ∷ []) ++ replicate 8 0))
unfolding computed
named_and_legs = tt

pub named_and_oversized : T (joins named oversized (take 35 named ++ replicate 39 0))
unfolding computed
named_and_oversized = tt

pub named_and_cut : T (join_refuses named cut 1)
unfolding computed
named_and_cut = tt

pub named_and_other_magic : T (join_refuses named other_magic 2)
unfolding computed
named_and_other_magic = tt

pub named_and_six : T (joins named six (take 30 six_out ++ (78 ∷ 97 ∷ 109 ∷ 101 ∷ []) ++ drop 34 six_out))
unfolding computed
named_and_six = tt

pub two_bones_and_nothing : T (joins two_bones nothing (take 50 cut ++ (2 ∷ 0 ∷ 0 ∷ 0 ∷ 66 ∷ []) ++ replicate 14 0 ++ (2 ∷ 0 ∷ 0 ∷ 0 ∷ 1 ∷ 0 ∷ 128 ∷ 127 ∷ 0 ∷ 0 ∷ 0 ∷ 128 ∷ 1 ∷ 0 ∷ 0 ∷ 0 ∷ 1 ∷ 0 ∷ 192 ∷ 255 ∷ 0 ∷ 0 ∷ 128 ∷ 127 ∷ 0 ∷ 0 ∷ 128 ∷ []) ++ replicate 4 255 ++ (127 ∷ []) ++ counting 48 64 ++ replicate 15 0 ++ (1 ∷ 0 ∷ 0 ∷ 0 ∷ 1 ∷ 0 ∷ 128 ∷ 127 ∷ 0 ∷ 0 ∷ 0 ∷ 128 ∷ 1 ∷ 0 ∷ 0 ∷ 0 ∷ 1 ∷ 0 ∷ 192 ∷ 255 ∷ 0 ∷ 0 ∷ 128 ∷ 127 ∷ 0 ∷ 0 ∷ 128 ∷ []) ++ replicate 4 255 ++ (127 ∷ []) ++ counting 48 64 ++ replicate 20 0))
unfolding computed
two_bones_and_nothing = tt

pub two_bones_and_named : T (joins two_bones named (take 35 named ++ replicate 15 0 ++ (2 ∷ 0 ∷ 0 ∷ 0 ∷ 66 ∷ []) ++ replicate 14 0 ++ (2 ∷ 0 ∷ 0 ∷ 0 ∷ 1 ∷ 0 ∷ 128 ∷ 127 ∷ 0 ∷ 0 ∷ 0 ∷ 128 ∷ 1 ∷ 0 ∷ 0 ∷ 0 ∷ 1 ∷ 0 ∷ 192 ∷ 255 ∷ 0 ∷ 0 ∷ 128 ∷ 127 ∷ 0 ∷ 0 ∷ 128 ∷ []) ++ replicate 4 255 ++ (127 ∷ []) ++ counting 48 64 ++ replicate 15 0 ++ (1 ∷ 0 ∷ 0 ∷ 0 ∷ 1 ∷ 0 ∷ 128 ∷ 127 ∷ 0 ∷ 0 ∷ 0 ∷ 128 ∷ 1 ∷ 0 ∷ 0 ∷ 0 ∷ 1 ∷ 0 ∷ 192 ∷ 255 ∷ 0 ∷ 0 ∷ 128 ∷ 127 ∷ 0 ∷ 0 ∷ 128 ∷ []) ++ replicate 4 255 ++ (127 ∷ []) ++ counting 48 64 ++ replicate 20 0))
unfolding computed
two_bones_and_named = tt

pub two_bones_and_two_bones : T (joins two_bones two_bones (take 50 cut ++ (4 ∷ 0 ∷ 0 ∷ 0 ∷ 66 ∷ []) ++ replicate 14 0 ++ (2 ∷ 0 ∷ 0 ∷ 0 ∷ 1 ∷ 0 ∷ 128 ∷ 127 ∷ 0 ∷ 0 ∷ 0 ∷ 128 ∷ 1 ∷ 0 ∷ 0 ∷ 0 ∷ 1 ∷ 0 ∷ 192 ∷ 255 ∷ 0 ∷ 0 ∷ 128 ∷ 127 ∷ 0 ∷ 0 ∷ 128 ∷ []) ++ replicate 4 255 ++ (127 ∷ []) ++ counting 48 64 ++ replicate 15 0 ++ (1 ∷ 0 ∷ 0 ∷ 0 ∷ 1 ∷ 0 ∷ 128 ∷ 127 ∷ 0 ∷ 0 ∷ 0 ∷ 128 ∷ 1 ∷ 0 ∷ 0 ∷ 0 ∷ 1 ∷ 0 ∷ 192 ∷ 255 ∷ 0 ∷ 0 ∷ 128 ∷ 127 ∷ 0 ∷ 0 ∷ 128 ∷ []) ++ replicate 4 255 ++ (127 ∷ []) ++ counting 48 64 ++ (66 ∷ []) ++ replicate 14 0 ++ (2 ∷ 0 ∷ 0 ∷ 0 ∷ 1 ∷ 0 ∷ 128 ∷ 127 ∷ 0 ∷ 0 ∷ 0 ∷ 128 ∷ 1 ∷ 0 ∷ 0 ∷ 0 ∷ 1 ∷ 0 ∷ 192 ∷ 255 ∷ 0 ∷ 0 ∷ 128 ∷ 127 ∷ 0 ∷ 0 ∷ 128 ∷ []) ++ replicate 4 255 ++ (127 ∷ []) ++ counting 48 64 ++ replicate 15 0 ++ (1 ∷ 0 ∷ 0 ∷ 0 ∷ 1 ∷ 0 ∷ 128 ∷ 127 ∷ 0 ∷ 0 ∷ 0 ∷ 128 ∷ 1 ∷ 0 ∷ 0 ∷ 0 ∷ 1 ∷ 0 ∷ 192 ∷ 255 ∷ 0 ∷ 0 ∷ 128 ∷ 127 ∷ 0 ∷ 0 ∷ 128 ∷ []) ++ replicate 4 255 ++ (127 ∷ []) ++ counting 48 64 ++ replicate 20 0))
unfolding computed
two_bones_and_two_bones = tt

pub two_bones_and_a_morph : T (joins two_bones a_morph (take 36 a_morph ++ replicate 14 0 ++ (2 ∷ 0 ∷ 0 ∷ 0 ∷ 66 ∷ []) ++ replicate 14 0 ++ (2 ∷ 0 ∷ 0 ∷ 0 ∷ 1 ∷ 0 ∷ 128 ∷ 127 ∷ 0 ∷ 0 ∷ 0 ∷ 128 ∷ 1 ∷ 0 ∷ 0 ∷ 0 ∷ 1 ∷ 0 ∷ 192 ∷ 255 ∷ 0 ∷ 0 ∷ 128 ∷ 127 ∷ 0 ∷ 0 ∷ 128 ∷ []) ++ replicate 4 255 ++ (127 ∷ []) ++ counting 48 64 ++ replicate 15 0 ++ (1 ∷ 0 ∷ 0 ∷ 0 ∷ 1 ∷ 0 ∷ 128 ∷ 127 ∷ 0 ∷ 0 ∷ 0 ∷ 128 ∷ 1 ∷ 0 ∷ 0 ∷ 0 ∷ 1 ∷ 0 ∷ 192 ∷ 255 ∷ 0 ∷ 0 ∷ 128 ∷ 127 ∷ 0 ∷ 0 ∷ 128 ∷ []) ++ replicate 4 255 ++ (127 ∷ []) ++ counting 48 64 ++ (1 ∷ 0 ∷ 0 ∷ 0 ∷ 77 ∷ []) ++ replicate 14 0 ++ (3 ∷ 0 ∷ 0 ∷ 0 ∷ 1 ∷ 0 ∷ 128 ∷ 127 ∷ []) ++ replicate 16 0))
unfolding computed
two_bones_and_a_morph = tt

pub two_bones_and_a_camera : T (joins two_bones a_camera (take 50 cut ++ (2 ∷ 0 ∷ 0 ∷ 0 ∷ 66 ∷ []) ++ replicate 14 0 ++ (2 ∷ 0 ∷ 0 ∷ 0 ∷ 1 ∷ 0 ∷ 128 ∷ 127 ∷ 0 ∷ 0 ∷ 0 ∷ 128 ∷ 1 ∷ 0 ∷ 0 ∷ 0 ∷ 1 ∷ 0 ∷ 192 ∷ 255 ∷ 0 ∷ 0 ∷ 128 ∷ 127 ∷ 0 ∷ 0 ∷ 128 ∷ []) ++ replicate 4 255 ++ (127 ∷ []) ++ counting 48 64 ++ replicate 15 0 ++ (1 ∷ 0 ∷ 0 ∷ 0 ∷ 1 ∷ 0 ∷ 128 ∷ 127 ∷ 0 ∷ 0 ∷ 0 ∷ 128 ∷ 1 ∷ 0 ∷ 0 ∷ 0 ∷ 1 ∷ 0 ∷ 192 ∷ 255 ∷ 0 ∷ 0 ∷ 128 ∷ 127 ∷ 0 ∷ 0 ∷ 128 ∷ []) ++ replicate 4 255 ++ (127 ∷ []) ++ counting 48 64 ++ replicate 4 0 ++ (1 ∷ 0 ∷ 0 ∷ 0 ∷ 6 ∷ []) ++ replicate 6 0 ++ (128 ∷ 1 ∷ 0 ∷ 0 ∷ 0 ∷ 1 ∷ 0 ∷ 192 ∷ 255 ∷ 0 ∷ 0 ∷ 128 ∷ 127 ∷ 0 ∷ 0 ∷ 128 ∷ []) ++ replicate 4 255 ++ (127 ∷ []) ++ replicate 4 0 ++ counting 1 24 ++ (45 ∷ 0 ∷ 0 ∷ 0 ∷ 1 ∷ []) ++ replicate 12 0))
unfolding computed
two_bones_and_a_camera = tt

pub two_bones_and_legs : T (joins two_bones legs (take 35 legs ++ replicate 15 0 ++ (2 ∷ 0 ∷ 0 ∷ 0 ∷ 66 ∷ []) ++ replicate 14 0 ++ (2 ∷ 0 ∷ 0 ∷ 0 ∷ 1 ∷ 0 ∷ 128 ∷ 127 ∷ 0 ∷ 0 ∷ 0 ∷ 128 ∷ 1 ∷ 0 ∷ 0 ∷ 0 ∷ 1 ∷ 0 ∷ 192 ∷ 255 ∷ 0 ∷ 0 ∷ 128 ∷ 127 ∷ 0 ∷ 0 ∷ 128 ∷ []) ++ replicate 4 255 ++ (127 ∷ []) ++ counting 48 64 ++ replicate 15 0 ++ (1 ∷ 0 ∷ 0 ∷ 0 ∷ 1 ∷ 0 ∷ 128 ∷ 127 ∷ 0 ∷ 0 ∷ 0 ∷ 128 ∷ 1 ∷ 0 ∷ 0 ∷ 0 ∷ 1 ∷ 0 ∷ 192 ∷ 255 ∷ 0 ∷ 0 ∷ 128 ∷ 127 ∷ 0 ∷ 0 ∷ 128 ∷ []) ++ replicate 4 255 ++ (127 ∷ []) ++ counting 48 64 ++ replicate 16 0 ++ (2 ∷ 0 ∷ 0 ∷ 0 ∷ 8 ∷ 0 ∷ 0 ∷ 0 ∷ 1 ∷ 2 ∷ 0 ∷ 0 ∷ 0 ∷ 76 ∷ []) ++ replicate 20 0 ++ (82 ∷ []) ++ replicate 19 0 ++ (1 ∷ []) ++ drop 125 legs))
unfolding computed
two_bones_and_legs = tt

pub two_bones_and_oversized : T (joins two_bones oversized (take 35 oversized ++ replicate 15 0 ++ (2 ∷ 0 ∷ 0 ∷ 0 ∷ 66 ∷ []) ++ replicate 14 0 ++ (2 ∷ 0 ∷ 0 ∷ 0 ∷ 1 ∷ 0 ∷ 128 ∷ 127 ∷ 0 ∷ 0 ∷ 0 ∷ 128 ∷ 1 ∷ 0 ∷ 0 ∷ 0 ∷ 1 ∷ 0 ∷ 192 ∷ 255 ∷ 0 ∷ 0 ∷ 128 ∷ 127 ∷ 0 ∷ 0 ∷ 128 ∷ []) ++ replicate 4 255 ++ (127 ∷ []) ++ counting 48 64 ++ replicate 15 0 ++ (1 ∷ 0 ∷ 0 ∷ 0 ∷ 1 ∷ 0 ∷ 128 ∷ 127 ∷ 0 ∷ 0 ∷ 0 ∷ 128 ∷ 1 ∷ 0 ∷ 0 ∷ 0 ∷ 1 ∷ 0 ∷ 192 ∷ 255 ∷ 0 ∷ 0 ∷ 128 ∷ 127 ∷ 0 ∷ 0 ∷ 128 ∷ []) ++ replicate 4 255 ++ (127 ∷ []) ++ counting 48 64 ++ replicate 20 0))
unfolding computed
two_bones_and_oversized = tt

pub two_bones_and_cut : T (join_refuses two_bones cut 1)
unfolding computed
two_bones_and_cut = tt

pub two_bones_and_other_magic : T (join_refuses two_bones other_magic 2)
unfolding computed
two_bones_and_other_magic = tt

pub two_bones_and_six : T (joins two_bones six (take 50 six_out ++ (3 ∷ 0 ∷ 0 ∷ 0 ∷ 66 ∷ []) ++ replicate 14 0 ++ (2 ∷ 0 ∷ 0 ∷ 0 ∷ 1 ∷ 0 ∷ 128 ∷ 127 ∷ 0 ∷ 0 ∷ 0 ∷ 128 ∷ 1 ∷ 0 ∷ 0 ∷ 0 ∷ 1 ∷ 0 ∷ 192 ∷ 255 ∷ 0 ∷ 0 ∷ 128 ∷ 127 ∷ 0 ∷ 0 ∷ 128 ∷ []) ++ replicate 4 255 ++ (127 ∷ []) ++ counting 48 64 ++ replicate 15 0 ++ (1 ∷ 0 ∷ 0 ∷ 0 ∷ 1 ∷ 0 ∷ 128 ∷ 127 ∷ 0 ∷ 0 ∷ 0 ∷ 128 ∷ 1 ∷ 0 ∷ 0 ∷ 0 ∷ 1 ∷ 0 ∷ 192 ∷ 255 ∷ 0 ∷ 0 ∷ 128 ∷ 127 ∷ 0 ∷ 0 ∷ 128 ∷ []) ++ replicate 4 255 ++ (127 ∷ []) ++ counting 48 64 ++ drop 54 six_out))
unfolding computed
two_bones_and_six = tt

pub a_morph_and_nothing : T (joins a_morph nothing (take 36 a_morph ++ replicate 18 0 ++ (1 ∷ 0 ∷ 0 ∷ 0 ∷ 77 ∷ []) ++ replicate 14 0 ++ (3 ∷ 0 ∷ 0 ∷ 0 ∷ 1 ∷ 0 ∷ 128 ∷ 127 ∷ []) ++ replicate 16 0))
unfolding computed
a_morph_and_nothing = tt

pub a_morph_and_named : T (joins a_morph named (take 36 a_morph ++ replicate 18 0 ++ (1 ∷ 0 ∷ 0 ∷ 0 ∷ 77 ∷ []) ++ replicate 14 0 ++ (3 ∷ 0 ∷ 0 ∷ 0 ∷ 1 ∷ 0 ∷ 128 ∷ 127 ∷ []) ++ replicate 16 0))
unfolding computed
a_morph_and_named = tt

pub a_morph_and_two_bones : T (joins a_morph two_bones (take 36 a_morph ++ replicate 14 0 ++ (2 ∷ 0 ∷ 0 ∷ 0 ∷ 66 ∷ []) ++ replicate 14 0 ++ (2 ∷ 0 ∷ 0 ∷ 0 ∷ 1 ∷ 0 ∷ 128 ∷ 127 ∷ 0 ∷ 0 ∷ 0 ∷ 128 ∷ 1 ∷ 0 ∷ 0 ∷ 0 ∷ 1 ∷ 0 ∷ 192 ∷ 255 ∷ 0 ∷ 0 ∷ 128 ∷ 127 ∷ 0 ∷ 0 ∷ 128 ∷ []) ++ replicate 4 255 ++ (127 ∷ []) ++ counting 48 64 ++ replicate 15 0 ++ (1 ∷ 0 ∷ 0 ∷ 0 ∷ 1 ∷ 0 ∷ 128 ∷ 127 ∷ 0 ∷ 0 ∷ 0 ∷ 128 ∷ 1 ∷ 0 ∷ 0 ∷ 0 ∷ 1 ∷ 0 ∷ 192 ∷ 255 ∷ 0 ∷ 0 ∷ 128 ∷ 127 ∷ 0 ∷ 0 ∷ 128 ∷ []) ++ replicate 4 255 ++ (127 ∷ []) ++ counting 48 64 ++ (1 ∷ 0 ∷ 0 ∷ 0 ∷ 77 ∷ []) ++ replicate 14 0 ++ (3 ∷ 0 ∷ 0 ∷ 0 ∷ 1 ∷ 0 ∷ 128 ∷ 127 ∷ []) ++ replicate 16 0))
unfolding computed
a_morph_and_two_bones = tt

pub a_morph_and_a_morph : T (joins a_morph a_morph (take 36 a_morph ++ replicate 18 0 ++ (2 ∷ 0 ∷ 0 ∷ 0 ∷ 77 ∷ []) ++ replicate 14 0 ++ (3 ∷ 0 ∷ 0 ∷ 0 ∷ 1 ∷ 0 ∷ 128 ∷ 127 ∷ 77 ∷ []) ++ replicate 14 0 ++ (3 ∷ 0 ∷ 0 ∷ 0 ∷ 1 ∷ 0 ∷ 128 ∷ 127 ∷ []) ++ replicate 16 0))
unfolding computed
a_morph_and_a_morph = tt

pub a_morph_and_a_camera : T (joins a_morph a_camera (take 36 a_morph ++ replicate 18 0 ++ (1 ∷ 0 ∷ 0 ∷ 0 ∷ 77 ∷ []) ++ replicate 14 0 ++ (3 ∷ 0 ∷ 0 ∷ 0 ∷ 1 ∷ 0 ∷ 128 ∷ 127 ∷ 1 ∷ 0 ∷ 0 ∷ 0 ∷ 6 ∷ []) ++ replicate 6 0 ++ (128 ∷ 1 ∷ 0 ∷ 0 ∷ 0 ∷ 1 ∷ 0 ∷ 192 ∷ 255 ∷ 0 ∷ 0 ∷ 128 ∷ 127 ∷ 0 ∷ 0 ∷ 128 ∷ []) ++ replicate 4 255 ++ (127 ∷ []) ++ replicate 4 0 ++ counting 1 24 ++ (45 ∷ 0 ∷ 0 ∷ 0 ∷ 1 ∷ []) ++ replicate 12 0))
unfolding computed
a_morph_and_a_camera = tt

pub a_morph_and_legs : T (joins a_morph legs (take 36 a_morph ++ replicate 18 0 ++ (1 ∷ 0 ∷ 0 ∷ 0 ∷ 77 ∷ []) ++ replicate 14 0 ++ (3 ∷ 0 ∷ 0 ∷ 0 ∷ 1 ∷ 0 ∷ 128 ∷ 127 ∷ []) ++ replicate 12 0 ++ (2 ∷ 0 ∷ 0 ∷ 0 ∷ 8 ∷ 0 ∷ 0 ∷ 0 ∷ 1 ∷ 2 ∷ 0 ∷ 0 ∷ 0 ∷ 76 ∷ []) ++ replicate 20 0 ++ (82 ∷ []) ++ replicate 19 0 ++ (1 ∷ 9 ∷ []) ++ replicate 8 0))
unfolding computed
a_morph_and_legs = tt

pub a_morph_and_oversized : T (joins a_morph oversized (take 36 a_morph ++ replicate 18 0 ++ (1 ∷ 0 ∷ 0 ∷ 0 ∷ 77 ∷ []) ++ replicate 14 0 ++ (3 ∷ 0 ∷ 0 ∷ 0 ∷ 1 ∷ 0 ∷ 128 ∷ 127 ∷ []) ++ replicate 16 0))
unfolding computed
a_morph_and_oversized = tt

pub a_morph_and_cut : T (join_refuses a_morph cut 1)
unfolding computed
a_morph_and_cut = tt

pub a_morph_and_other_magic : T (join_refuses a_morph other_magic 2)
unfolding computed
a_morph_and_other_magic = tt

pub a_morph_and_six : T (joins a_morph six (take 31 six_out ++ (111 ∷ 114 ∷ 112 ∷ 104 ∷ []) ++ replicate 15 0 ++ (1 ∷ 0 ∷ 0 ∷ 0 ∷ 65 ∷ []) ++ replicate 14 0 ++ (7 ∷ 0 ∷ 0 ∷ 0 ∷ 1 ∷ 0 ∷ 128 ∷ 127 ∷ 0 ∷ 0 ∷ 0 ∷ 128 ∷ 1 ∷ 0 ∷ 0 ∷ 0 ∷ 1 ∷ 0 ∷ 192 ∷ 255 ∷ 0 ∷ 0 ∷ 128 ∷ 127 ∷ 0 ∷ 0 ∷ 128 ∷ []) ++ replicate 4 255 ++ (127 ∷ []) ++ counting 48 64 ++ (2 ∷ 0 ∷ 0 ∷ 0 ∷ 77 ∷ []) ++ replicate 14 0 ++ (3 ∷ 0 ∷ 0 ∷ 0 ∷ 1 ∷ 0 ∷ 128 ∷ 127 ∷ []) ++ drop 169 six_out))
unfolding computed
a_morph_and_six = tt

pub a_camera_and_nothing : T (joins a_camera nothing (cut ++ (0 ∷ 1 ∷ 0 ∷ 0 ∷ 0 ∷ 6 ∷ []) ++ replicate 6 0 ++ (128 ∷ 1 ∷ 0 ∷ 0 ∷ 0 ∷ 1 ∷ 0 ∷ 192 ∷ 255 ∷ 0 ∷ 0 ∷ 128 ∷ 127 ∷ 0 ∷ 0 ∷ 128 ∷ []) ++ replicate 4 255 ++ (127 ∷ []) ++ replicate 4 0 ++ counting 1 24 ++ (45 ∷ 0 ∷ 0 ∷ 0 ∷ 1 ∷ []) ++ replicate 12 0))
unfolding computed
a_camera_and_nothing = tt

pub a_camera_and_named : T (joins a_camera named (take 35 named ++ replicate 23 0 ++ (1 ∷ 0 ∷ 0 ∷ 0 ∷ 6 ∷ []) ++ replicate 6 0 ++ (128 ∷ 1 ∷ 0 ∷ 0 ∷ 0 ∷ 1 ∷ 0 ∷ 192 ∷ 255 ∷ 0 ∷ 0 ∷ 128 ∷ 127 ∷ 0 ∷ 0 ∷ 128 ∷ []) ++ replicate 4 255 ++ (127 ∷ []) ++ replicate 4 0 ++ counting 1 24 ++ (45 ∷ 0 ∷ 0 ∷ 0 ∷ 1 ∷ []) ++ replicate 12 0))
unfolding computed
a_camera_and_named = tt

pub a_camera_and_two_bones : T (joins a_camera two_bones (take 50 cut ++ (2 ∷ 0 ∷ 0 ∷ 0 ∷ 66 ∷ []) ++ replicate 14 0 ++ (2 ∷ 0 ∷ 0 ∷ 0 ∷ 1 ∷ 0 ∷ 128 ∷ 127 ∷ 0 ∷ 0 ∷ 0 ∷ 128 ∷ 1 ∷ 0 ∷ 0 ∷ 0 ∷ 1 ∷ 0 ∷ 192 ∷ 255 ∷ 0 ∷ 0 ∷ 128 ∷ 127 ∷ 0 ∷ 0 ∷ 128 ∷ []) ++ replicate 4 255 ++ (127 ∷ []) ++ counting 48 64 ++ replicate 15 0 ++ (1 ∷ 0 ∷ 0 ∷ 0 ∷ 1 ∷ 0 ∷ 128 ∷ 127 ∷ 0 ∷ 0 ∷ 0 ∷ 128 ∷ 1 ∷ 0 ∷ 0 ∷ 0 ∷ 1 ∷ 0 ∷ 192 ∷ 255 ∷ 0 ∷ 0 ∷ 128 ∷ 127 ∷ 0 ∷ 0 ∷ 128 ∷ []) ++ replicate 4 255 ++ (127 ∷ []) ++ counting 48 64 ++ replicate 4 0 ++ (1 ∷ 0 ∷ 0 ∷ 0 ∷ 6 ∷ []) ++ replicate 6 0 ++ (128 ∷ 1 ∷ 0 ∷ 0 ∷ 0 ∷ 1 ∷ 0 ∷ 192 ∷ 255 ∷ 0 ∷ 0 ∷ 128 ∷ 127 ∷ 0 ∷ 0 ∷ 128 ∷ []) ++ replicate 4 255 ++ (127 ∷ []) ++ replicate 4 0 ++ counting 1 24 ++ (45 ∷ 0 ∷ 0 ∷ 0 ∷ 1 ∷ []) ++ replicate 12 0))
unfolding computed
a_camera_and_two_bones = tt

pub a_camera_and_a_morph : T (joins a_camera a_morph (take 36 a_morph ++ replicate 18 0 ++ (1 ∷ 0 ∷ 0 ∷ 0 ∷ 77 ∷ []) ++ replicate 14 0 ++ (3 ∷ 0 ∷ 0 ∷ 0 ∷ 1 ∷ 0 ∷ 128 ∷ 127 ∷ 1 ∷ 0 ∷ 0 ∷ 0 ∷ 6 ∷ []) ++ replicate 6 0 ++ (128 ∷ 1 ∷ 0 ∷ 0 ∷ 0 ∷ 1 ∷ 0 ∷ 192 ∷ 255 ∷ 0 ∷ 0 ∷ 128 ∷ 127 ∷ 0 ∷ 0 ∷ 128 ∷ []) ++ replicate 4 255 ++ (127 ∷ []) ++ replicate 4 0 ++ counting 1 24 ++ (45 ∷ 0 ∷ 0 ∷ 0 ∷ 1 ∷ []) ++ replicate 12 0))
unfolding computed
a_camera_and_a_morph = tt

pub a_camera_and_a_camera : T (joins a_camera a_camera (cut ++ (0 ∷ 2 ∷ 0 ∷ 0 ∷ 0 ∷ 6 ∷ []) ++ replicate 6 0 ++ (128 ∷ 1 ∷ 0 ∷ 0 ∷ 0 ∷ 1 ∷ 0 ∷ 192 ∷ 255 ∷ 0 ∷ 0 ∷ 128 ∷ 127 ∷ 0 ∷ 0 ∷ 128 ∷ []) ++ replicate 4 255 ++ (127 ∷ []) ++ replicate 4 0 ++ counting 1 24 ++ (45 ∷ 0 ∷ 0 ∷ 0 ∷ 1 ∷ 6 ∷ []) ++ replicate 6 0 ++ (128 ∷ 1 ∷ 0 ∷ 0 ∷ 0 ∷ 1 ∷ 0 ∷ 192 ∷ 255 ∷ 0 ∷ 0 ∷ 128 ∷ 127 ∷ 0 ∷ 0 ∷ 128 ∷ []) ++ replicate 4 255 ++ (127 ∷ []) ++ replicate 4 0 ++ counting 1 24 ++ (45 ∷ 0 ∷ 0 ∷ 0 ∷ 1 ∷ []) ++ replicate 12 0))
unfolding computed
a_camera_and_a_camera = tt

pub a_camera_and_legs : T (joins a_camera legs (take 35 legs ++ replicate 23 0 ++ (1 ∷ 0 ∷ 0 ∷ 0 ∷ 6 ∷ []) ++ replicate 6 0 ++ (128 ∷ 1 ∷ 0 ∷ 0 ∷ 0 ∷ 1 ∷ 0 ∷ 192 ∷ 255 ∷ 0 ∷ 0 ∷ 128 ∷ 127 ∷ 0 ∷ 0 ∷ 128 ∷ []) ++ replicate 4 255 ++ (127 ∷ []) ++ replicate 4 0 ++ counting 1 24 ++ (45 ∷ 0 ∷ 0 ∷ 0 ∷ 1 ∷ []) ++ replicate 8 0 ++ (2 ∷ 0 ∷ 0 ∷ 0 ∷ 8 ∷ 0 ∷ 0 ∷ 0 ∷ 1 ∷ 2 ∷ 0 ∷ 0 ∷ 0 ∷ 76 ∷ []) ++ replicate 20 0 ++ (82 ∷ []) ++ replicate 19 0 ++ (1 ∷ []) ++ drop 125 legs))
unfolding computed
a_camera_and_legs = tt

pub a_camera_and_oversized : T (joins a_camera oversized (take 35 oversized ++ replicate 23 0 ++ (1 ∷ 0 ∷ 0 ∷ 0 ∷ 6 ∷ []) ++ replicate 6 0 ++ (128 ∷ 1 ∷ 0 ∷ 0 ∷ 0 ∷ 1 ∷ 0 ∷ 192 ∷ 255 ∷ 0 ∷ 0 ∷ 128 ∷ 127 ∷ 0 ∷ 0 ∷ 128 ∷ []) ++ replicate 4 255 ++ (127 ∷ []) ++ replicate 4 0 ++ counting 1 24 ++ (45 ∷ 0 ∷ 0 ∷ 0 ∷ 1 ∷ []) ++ replicate 12 0))
unfolding computed
a_camera_and_oversized = tt

pub a_camera_and_cut : T (join_refuses a_camera cut 1)
unfolding computed
a_camera_and_cut = tt

pub a_camera_and_other_magic : T (join_refuses a_camera other_magic 2)
unfolding computed
a_camera_and_other_magic = tt

pub a_camera_and_six : T (joins a_camera six (take 192 six_out ++ (2 ∷ 0 ∷ 0 ∷ 0 ∷ 6 ∷ []) ++ replicate 6 0 ++ (128 ∷ 1 ∷ 0 ∷ 0 ∷ 0 ∷ 1 ∷ 0 ∷ 192 ∷ 255 ∷ 0 ∷ 0 ∷ 128 ∷ 127 ∷ 0 ∷ 0 ∷ 128 ∷ []) ++ replicate 4 255 ++ (127 ∷ []) ++ replicate 4 0 ++ counting 1 24 ++ (45 ∷ 0 ∷ 0 ∷ 0 ∷ 1 ∷ []) ++ drop 196 six_out))
unfolding computed
a_camera_and_six = tt

pub legs_and_nothing : T (joins legs nothing (take 35 legs ++ replicate 35 0 ++ (2 ∷ 0 ∷ 0 ∷ 0 ∷ 8 ∷ 0 ∷ 0 ∷ 0 ∷ 1 ∷ 2 ∷ 0 ∷ 0 ∷ 0 ∷ 76 ∷ []) ++ replicate 20 0 ++ (82 ∷ []) ++ replicate 19 0 ++ (1 ∷ []) ++ drop 125 legs))
unfolding computed
legs_and_nothing = tt

pub legs_and_named : T (joins legs named (take 35 legs ++ replicate 35 0 ++ (2 ∷ 0 ∷ 0 ∷ 0 ∷ 8 ∷ 0 ∷ 0 ∷ 0 ∷ 1 ∷ 2 ∷ 0 ∷ 0 ∷ 0 ∷ 76 ∷ []) ++ replicate 20 0 ++ (82 ∷ []) ++ replicate 19 0 ++ (1 ∷ []) ++ drop 125 legs))
unfolding computed
legs_and_named = tt

pub legs_and_two_bones : T (joins legs two_bones (take 35 legs ++ replicate 15 0 ++ (2 ∷ 0 ∷ 0 ∷ 0 ∷ 66 ∷ []) ++ replicate 14 0 ++ (2 ∷ 0 ∷ 0 ∷ 0 ∷ 1 ∷ 0 ∷ 128 ∷ 127 ∷ 0 ∷ 0 ∷ 0 ∷ 128 ∷ 1 ∷ 0 ∷ 0 ∷ 0 ∷ 1 ∷ 0 ∷ 192 ∷ 255 ∷ 0 ∷ 0 ∷ 128 ∷ 127 ∷ 0 ∷ 0 ∷ 128 ∷ []) ++ replicate 4 255 ++ (127 ∷ []) ++ counting 48 64 ++ replicate 15 0 ++ (1 ∷ 0 ∷ 0 ∷ 0 ∷ 1 ∷ 0 ∷ 128 ∷ 127 ∷ 0 ∷ 0 ∷ 0 ∷ 128 ∷ 1 ∷ 0 ∷ 0 ∷ 0 ∷ 1 ∷ 0 ∷ 192 ∷ 255 ∷ 0 ∷ 0 ∷ 128 ∷ 127 ∷ 0 ∷ 0 ∷ 128 ∷ []) ++ replicate 4 255 ++ (127 ∷ []) ++ counting 48 64 ++ replicate 16 0 ++ (2 ∷ 0 ∷ 0 ∷ 0 ∷ 8 ∷ 0 ∷ 0 ∷ 0 ∷ 1 ∷ 2 ∷ 0 ∷ 0 ∷ 0 ∷ 76 ∷ []) ++ replicate 20 0 ++ (82 ∷ []) ++ replicate 19 0 ++ (1 ∷ []) ++ drop 125 legs))
unfolding computed
legs_and_two_bones = tt

pub legs_and_a_morph : T (joins legs a_morph (take 35 legs ++ replicate 19 0 ++ (1 ∷ 0 ∷ 0 ∷ 0 ∷ 77 ∷ []) ++ replicate 14 0 ++ (3 ∷ 0 ∷ 0 ∷ 0 ∷ 1 ∷ 0 ∷ 128 ∷ 127 ∷ []) ++ replicate 12 0 ++ (2 ∷ 0 ∷ 0 ∷ 0 ∷ 8 ∷ 0 ∷ 0 ∷ 0 ∷ 1 ∷ 2 ∷ 0 ∷ 0 ∷ 0 ∷ 76 ∷ []) ++ replicate 20 0 ++ (82 ∷ []) ++ replicate 19 0 ++ (1 ∷ []) ++ drop 125 legs))
unfolding computed
legs_and_a_morph = tt

pub legs_and_a_camera : T (joins legs a_camera (take 35 legs ++ replicate 23 0 ++ (1 ∷ 0 ∷ 0 ∷ 0 ∷ 6 ∷ []) ++ replicate 6 0 ++ (128 ∷ 1 ∷ 0 ∷ 0 ∷ 0 ∷ 1 ∷ 0 ∷ 192 ∷ 255 ∷ 0 ∷ 0 ∷ 128 ∷ 127 ∷ 0 ∷ 0 ∷ 128 ∷ []) ++ replicate 4 255 ++ (127 ∷ []) ++ replicate 4 0 ++ counting 1 24 ++ (45 ∷ 0 ∷ 0 ∷ 0 ∷ 1 ∷ []) ++ replicate 8 0 ++ (2 ∷ 0 ∷ 0 ∷ 0 ∷ 8 ∷ 0 ∷ 0 ∷ 0 ∷ 1 ∷ 2 ∷ 0 ∷ 0 ∷ 0 ∷ 76 ∷ []) ++ replicate 20 0 ++ (82 ∷ []) ++ replicate 19 0 ++ (1 ∷ []) ++ drop 125 legs))
unfolding computed
legs_and_a_camera = tt

pub legs_and_legs : T (joins legs legs (take 35 legs ++ replicate 35 0 ++ (4 ∷ 0 ∷ 0 ∷ 0 ∷ 8 ∷ 0 ∷ 0 ∷ 0 ∷ 1 ∷ 2 ∷ 0 ∷ 0 ∷ 0 ∷ 76 ∷ []) ++ replicate 20 0 ++ (82 ∷ []) ++ replicate 19 0 ++ (1 ∷ 9 ∷ []) ++ replicate 8 0 ++ (8 ∷ 0 ∷ 0 ∷ 0 ∷ 1 ∷ 2 ∷ 0 ∷ 0 ∷ 0 ∷ 76 ∷ []) ++ replicate 20 0 ++ (82 ∷ []) ++ replicate 19 0 ++ (1 ∷ []) ++ drop 125 legs))
unfolding computed
legs_and_legs = tt

pub legs_and_oversized : T (joins legs oversized (take 35 legs ++ replicate 35 0 ++ (2 ∷ 0 ∷ 0 ∷ 0 ∷ 8 ∷ 0 ∷ 0 ∷ 0 ∷ 1 ∷ 2 ∷ 0 ∷ 0 ∷ 0 ∷ 76 ∷ []) ++ replicate 20 0 ++ (82 ∷ []) ++ replicate 19 0 ++ (1 ∷ []) ++ drop 125 legs))
unfolding computed
legs_and_oversized = tt

pub legs_and_cut : T (join_refuses legs cut 1)
unfolding computed
legs_and_cut = tt

pub legs_and_other_magic : T (join_refuses legs other_magic 2)
unfolding computed
legs_and_other_magic = tt

pub legs_and_six : T (joins legs six (take 30 six_out ++ (76 ∷ 101 ∷ 103 ∷ 115 ∷ []) ++ replicate 16 0 ++ (1 ∷ 0 ∷ 0 ∷ 0 ∷ 65 ∷ []) ++ replicate 14 0 ++ (7 ∷ 0 ∷ 0 ∷ 0 ∷ 1 ∷ 0 ∷ 128 ∷ 127 ∷ 0 ∷ 0 ∷ 0 ∷ 128 ∷ 1 ∷ 0 ∷ 0 ∷ 0 ∷ 1 ∷ 0 ∷ 192 ∷ 255 ∷ 0 ∷ 0 ∷ 128 ∷ 127 ∷ 0 ∷ 0 ∷ 128 ∷ []) ++ replicate 4 255 ++ (127 ∷ []) ++ counting 48 64 ++ (1 ∷ 0 ∷ 0 ∷ 0 ∷ []) ++ counting 65 15 ++ (9 ∷ []) ++ replicate 5 0 ++ (128 ∷ 255 ∷ 1 ∷ 0 ∷ 0 ∷ 0 ∷ 5 ∷ []) ++ replicate 6 0 ++ (128 ∷ 1 ∷ 0 ∷ 0 ∷ 0 ∷ 1 ∷ 0 ∷ 192 ∷ 255 ∷ 0 ∷ 0 ∷ 128 ∷ 127 ∷ 0 ∷ 0 ∷ 128 ∷ []) ++ replicate 4 255 ++ (127 ∷ []) ++ replicate 4 0 ++ counting 1 24 ++ (45 ∷ 0 ∷ 0 ∷ 0 ∷ 1 ∷ 1 ∷ 0 ∷ 0 ∷ 0 ∷ 4 ∷ 0 ∷ 0 ∷ 0 ∷ 1 ∷ 0 ∷ 128 ∷ 127 ∷ 0 ∷ 0 ∷ 0 ∷ 128 ∷ 1 ∷ 0 ∷ 0 ∷ 0 ∷ 1 ∷ 0 ∷ 192 ∷ 255 ∷ 0 ∷ 0 ∷ 128 ∷ 127 ∷ 0 ∷ 0 ∷ 128 ∷ 255 ∷ 1 ∷ 0 ∷ 0 ∷ 0 ∷ 3 ∷ 0 ∷ 0 ∷ 0 ∷ 200 ∷ 255 ∷ 255 ∷ 255 ∷ 127 ∷ 4 ∷ 0 ∷ 0 ∷ 0 ∷ 8 ∷ 0 ∷ 0 ∷ 0 ∷ 1 ∷ 2 ∷ 0 ∷ 0 ∷ 0 ∷ 76 ∷ []) ++ replicate 20 0 ++ (82 ∷ []) ++ replicate 19 0 ++ (1 ∷ 9 ∷ []) ++ replicate 5 0 ++ drop 303 six_out))
unfolding computed
legs_and_six = tt

pub oversized_and_nothing : T (joins oversized nothing (take 35 oversized ++ replicate 39 0))
unfolding computed
oversized_and_nothing = tt

pub oversized_and_named : T (joins oversized named (take 35 oversized ++ replicate 39 0))
unfolding computed
oversized_and_named = tt

pub oversized_and_two_bones : T (joins oversized two_bones (take 35 oversized ++ replicate 15 0 ++ (2 ∷ 0 ∷ 0 ∷ 0 ∷ 66 ∷ []) ++ replicate 14 0 ++ (2 ∷ 0 ∷ 0 ∷ 0 ∷ 1 ∷ 0 ∷ 128 ∷ 127 ∷ 0 ∷ 0 ∷ 0 ∷ 128 ∷ 1 ∷ 0 ∷ 0 ∷ 0 ∷ 1 ∷ 0 ∷ 192 ∷ 255 ∷ 0 ∷ 0 ∷ 128 ∷ 127 ∷ 0 ∷ 0 ∷ 128 ∷ []) ++ replicate 4 255 ++ (127 ∷ []) ++ counting 48 64 ++ replicate 15 0 ++ (1 ∷ 0 ∷ 0 ∷ 0 ∷ 1 ∷ 0 ∷ 128 ∷ 127 ∷ 0 ∷ 0 ∷ 0 ∷ 128 ∷ 1 ∷ 0 ∷ 0 ∷ 0 ∷ 1 ∷ 0 ∷ 192 ∷ 255 ∷ 0 ∷ 0 ∷ 128 ∷ 127 ∷ 0 ∷ 0 ∷ 128 ∷ []) ++ replicate 4 255 ++ (127 ∷ []) ++ counting 48 64 ++ replicate 20 0))
unfolding computed
oversized_and_two_bones = tt

pub oversized_and_a_morph : T (joins oversized a_morph (take 35 oversized ++ replicate 19 0 ++ (1 ∷ 0 ∷ 0 ∷ 0 ∷ 77 ∷ []) ++ replicate 14 0 ++ (3 ∷ 0 ∷ 0 ∷ 0 ∷ 1 ∷ 0 ∷ 128 ∷ 127 ∷ []) ++ replicate 16 0))
unfolding computed
oversized_and_a_morph = tt

pub oversized_and_a_camera : T (joins oversized a_camera (take 35 oversized ++ replicate 23 0 ++ (1 ∷ 0 ∷ 0 ∷ 0 ∷ 6 ∷ []) ++ replicate 6 0 ++ (128 ∷ 1 ∷ 0 ∷ 0 ∷ 0 ∷ 1 ∷ 0 ∷ 192 ∷ 255 ∷ 0 ∷ 0 ∷ 128 ∷ 127 ∷ 0 ∷ 0 ∷ 128 ∷ []) ++ replicate 4 255 ++ (127 ∷ []) ++ replicate 4 0 ++ counting 1 24 ++ (45 ∷ 0 ∷ 0 ∷ 0 ∷ 1 ∷ []) ++ replicate 12 0))
unfolding computed
oversized_and_a_camera = tt

pub oversized_and_legs : T (joins oversized legs (take 35 oversized ++ replicate 35 0 ++ (2 ∷ 0 ∷ 0 ∷ 0 ∷ 8 ∷ 0 ∷ 0 ∷ 0 ∷ 1 ∷ 2 ∷ 0 ∷ 0 ∷ 0 ∷ 76 ∷ []) ++ replicate 20 0 ++ (82 ∷ []) ++ replicate 19 0 ++ (1 ∷ 9 ∷ []) ++ replicate 8 0))
unfolding computed
oversized_and_legs = tt

pub oversized_and_oversized : T (joins oversized oversized (take 35 oversized ++ replicate 39 0))
unfolding computed
oversized_and_oversized = tt

pub oversized_and_cut : T (join_refuses oversized cut 1)
unfolding computed
oversized_and_cut = tt

pub oversized_and_other_magic : T (join_refuses oversized other_magic 2)
unfolding computed
oversized_and_other_magic = tt

pub oversized_and_six : T (joins oversized six (take 30 six_out ++ (79 ∷ 118 ∷ 101 ∷ 114 ∷ []) ++ drop 34 six_out))
unfolding computed
oversized_and_six = tt

pub cut_and_nothing : T (join_refuses cut nothing 1)
unfolding computed
cut_and_nothing = tt

pub cut_and_named : T (join_refuses cut named 1)
unfolding computed
cut_and_named = tt

pub cut_and_two_bones : T (join_refuses cut two_bones 1)
unfolding computed
cut_and_two_bones = tt

pub cut_and_a_morph : T (join_refuses cut a_morph 1)
unfolding computed
cut_and_a_morph = tt

pub cut_and_a_camera : T (join_refuses cut a_camera 1)
unfolding computed
cut_and_a_camera = tt

pub cut_and_legs : T (join_refuses cut legs 1)
unfolding computed
cut_and_legs = tt

pub cut_and_oversized : T (join_refuses cut oversized 1)
unfolding computed
cut_and_oversized = tt

pub cut_and_cut : T (join_refuses cut cut 1)
unfolding computed
cut_and_cut = tt

pub cut_and_other_magic : T (join_refuses cut other_magic 1)
unfolding computed
cut_and_other_magic = tt

pub cut_and_six : T (join_refuses cut six 1)
unfolding computed
cut_and_six = tt

pub other_magic_and_nothing : T (join_refuses other_magic nothing 2)
unfolding computed
other_magic_and_nothing = tt

pub other_magic_and_named : T (join_refuses other_magic named 2)
unfolding computed
other_magic_and_named = tt

pub other_magic_and_two_bones : T (join_refuses other_magic two_bones 2)
unfolding computed
other_magic_and_two_bones = tt

pub other_magic_and_a_morph : T (join_refuses other_magic a_morph 2)
unfolding computed
other_magic_and_a_morph = tt

pub other_magic_and_a_camera : T (join_refuses other_magic a_camera 2)
unfolding computed
other_magic_and_a_camera = tt

pub other_magic_and_legs : T (join_refuses other_magic legs 2)
unfolding computed
other_magic_and_legs = tt

pub other_magic_and_oversized : T (join_refuses other_magic oversized 2)
unfolding computed
other_magic_and_oversized = tt

pub other_magic_and_cut : T (join_refuses other_magic cut 2)
unfolding computed
other_magic_and_cut = tt

pub other_magic_and_other_magic : T (join_refuses other_magic other_magic 2)
unfolding computed
other_magic_and_other_magic = tt

pub other_magic_and_six : T (join_refuses other_magic six 2)
unfolding computed
other_magic_and_six = tt

pub six_and_nothing : T (joins six nothing six_out)
unfolding computed
six_and_nothing = tt

pub six_and_named : T (joins six named six_out)
unfolding computed
six_and_named = tt

pub six_and_two_bones : T (joins six two_bones (take 50 six_out ++ (3 ∷ 0 ∷ 0 ∷ 0 ∷ 65 ∷ []) ++ replicate 14 0 ++ (7 ∷ 0 ∷ 0 ∷ 0 ∷ 1 ∷ 0 ∷ 128 ∷ 127 ∷ 0 ∷ 0 ∷ 0 ∷ 128 ∷ 1 ∷ 0 ∷ 0 ∷ 0 ∷ 1 ∷ 0 ∷ 192 ∷ 255 ∷ 0 ∷ 0 ∷ 128 ∷ 127 ∷ 0 ∷ 0 ∷ 128 ∷ []) ++ replicate 4 255 ++ (127 ∷ []) ++ counting 48 64 ++ (66 ∷ []) ++ replicate 14 0 ++ (2 ∷ 0 ∷ 0 ∷ 0 ∷ 1 ∷ 0 ∷ 128 ∷ 127 ∷ 0 ∷ 0 ∷ 0 ∷ 128 ∷ 1 ∷ 0 ∷ 0 ∷ 0 ∷ 1 ∷ 0 ∷ 192 ∷ 255 ∷ 0 ∷ 0 ∷ 128 ∷ 127 ∷ 0 ∷ 0 ∷ 128 ∷ []) ++ replicate 4 255 ++ (127 ∷ []) ++ counting 48 64 ++ replicate 15 0 ++ (1 ∷ []) ++ drop 70 six_out))
unfolding computed
six_and_two_bones = tt

pub six_and_a_morph : T (joins six a_morph (take 165 six_out ++ (2 ∷ 0 ∷ 0 ∷ 0 ∷ []) ++ counting 65 15 ++ (9 ∷ []) ++ replicate 5 0 ++ (128 ∷ 255 ∷ 77 ∷ []) ++ replicate 14 0 ++ (3 ∷ 0 ∷ 0 ∷ 0 ∷ 1 ∷ 0 ∷ 128 ∷ 127 ∷ []) ++ drop 192 six_out))
unfolding computed
six_and_a_morph = tt

pub six_and_a_camera : T (joins six a_camera (take 192 six_out ++ (2 ∷ 0 ∷ 0 ∷ 0 ∷ 5 ∷ []) ++ replicate 6 0 ++ (128 ∷ 1 ∷ 0 ∷ 0 ∷ 0 ∷ 1 ∷ 0 ∷ 192 ∷ 255 ∷ 0 ∷ 0 ∷ 128 ∷ 127 ∷ 0 ∷ 0 ∷ 128 ∷ []) ++ replicate 4 255 ++ (127 ∷ []) ++ replicate 4 0 ++ counting 1 24 ++ (45 ∷ 0 ∷ 0 ∷ 0 ∷ 1 ∷ 6 ∷ []) ++ drop 197 six_out))
unfolding computed
six_and_a_camera = tt

pub six_and_legs : T (joins six legs (take 302 six_out ++ (4 ∷ 0 ∷ 0 ∷ 0 ∷ 112 ∷ 17 ∷ 1 ∷ 0 ∷ 1 ∷ 2 ∷ 0 ∷ 0 ∷ 0 ∷ 75 ∷ []) ++ replicate 19 0 ++ (1 ∷ []) ++ counting 97 20 ++ (0 ∷ 12 ∷ []) ++ replicate 8 0 ++ (8 ∷ 0 ∷ 0 ∷ 0 ∷ 1 ∷ 2 ∷ 0 ∷ 0 ∷ 0 ∷ 76 ∷ []) ++ replicate 20 0 ++ (82 ∷ []) ++ replicate 19 0 ++ (1 ∷ 9 ∷ []) ++ drop 358 six_out))
unfolding computed
six_and_legs = tt

pub six_and_oversized : T (joins six oversized six_out)
unfolding computed
six_and_oversized = tt

pub six_and_cut : T (join_refuses six cut 1)
unfolding computed
six_and_cut = tt

pub six_and_other_magic : T (join_refuses six other_magic 2)
unfolding computed
six_and_other_magic = tt

pub six_and_six : T (joins six six (take 50 six_out ++ (2 ∷ 0 ∷ 0 ∷ 0 ∷ 65 ∷ []) ++ replicate 14 0 ++ (7 ∷ 0 ∷ 0 ∷ 0 ∷ 1 ∷ 0 ∷ 128 ∷ 127 ∷ 0 ∷ 0 ∷ 0 ∷ 128 ∷ 1 ∷ 0 ∷ 0 ∷ 0 ∷ 1 ∷ 0 ∷ 192 ∷ 255 ∷ 0 ∷ 0 ∷ 128 ∷ 127 ∷ 0 ∷ 0 ∷ 128 ∷ []) ++ replicate 4 255 ++ (127 ∷ []) ++ counting 48 64 ++ (65 ∷ []) ++ replicate 14 0 ++ (7 ∷ 0 ∷ 0 ∷ 0 ∷ 1 ∷ 0 ∷ 128 ∷ 127 ∷ 0 ∷ 0 ∷ 0 ∷ 128 ∷ 1 ∷ 0 ∷ 0 ∷ 0 ∷ 1 ∷ 0 ∷ 192 ∷ 255 ∷ 0 ∷ 0 ∷ 128 ∷ 127 ∷ 0 ∷ 0 ∷ 128 ∷ []) ++ replicate 4 255 ++ (127 ∷ []) ++ counting 48 64 ++ (2 ∷ 0 ∷ 0 ∷ 0 ∷ []) ++ counting 65 15 ++ (9 ∷ []) ++ replicate 5 0 ++ (128 ∷ 255 ∷ []) ++ counting 65 15 ++ (9 ∷ []) ++ replicate 5 0 ++ (128 ∷ 255 ∷ 2 ∷ 0 ∷ 0 ∷ 0 ∷ 5 ∷ []) ++ replicate 6 0 ++ (128 ∷ 1 ∷ 0 ∷ 0 ∷ 0 ∷ 1 ∷ 0 ∷ 192 ∷ 255 ∷ 0 ∷ 0 ∷ 128 ∷ 127 ∷ 0 ∷ 0 ∷ 128 ∷ []) ++ replicate 4 255 ++ (127 ∷ []) ++ replicate 4 0 ++ counting 1 24 ++ (45 ∷ 0 ∷ 0 ∷ 0 ∷ 1 ∷ 5 ∷ []) ++ replicate 6 0 ++ (128 ∷ 1 ∷ 0 ∷ 0 ∷ 0 ∷ 1 ∷ 0 ∷ 192 ∷ 255 ∷ 0 ∷ 0 ∷ 128 ∷ 127 ∷ 0 ∷ 0 ∷ 128 ∷ []) ++ replicate 4 255 ++ (127 ∷ []) ++ replicate 4 0 ++ counting 1 24 ++ (45 ∷ 0 ∷ 0 ∷ 0 ∷ 1 ∷ 2 ∷ 0 ∷ 0 ∷ 0 ∷ 4 ∷ 0 ∷ 0 ∷ 0 ∷ 1 ∷ 0 ∷ 128 ∷ 127 ∷ 0 ∷ 0 ∷ 0 ∷ 128 ∷ 1 ∷ 0 ∷ 0 ∷ 0 ∷ 1 ∷ 0 ∷ 192 ∷ 255 ∷ 0 ∷ 0 ∷ 128 ∷ 127 ∷ 0 ∷ 0 ∷ 128 ∷ 255 ∷ 4 ∷ 0 ∷ 0 ∷ 0 ∷ 1 ∷ 0 ∷ 128 ∷ 127 ∷ 0 ∷ 0 ∷ 0 ∷ 128 ∷ 1 ∷ 0 ∷ 0 ∷ 0 ∷ 1 ∷ 0 ∷ 192 ∷ 255 ∷ 0 ∷ 0 ∷ 128 ∷ 127 ∷ 0 ∷ 0 ∷ 128 ∷ 255 ∷ 2 ∷ 0 ∷ 0 ∷ 0 ∷ 3 ∷ 0 ∷ 0 ∷ 0 ∷ 200 ∷ 255 ∷ 255 ∷ 255 ∷ 127 ∷ 3 ∷ 0 ∷ 0 ∷ 0 ∷ 200 ∷ 255 ∷ 255 ∷ 255 ∷ 127 ∷ 4 ∷ 0 ∷ 0 ∷ 0 ∷ 112 ∷ 17 ∷ 1 ∷ 0 ∷ 1 ∷ 2 ∷ 0 ∷ 0 ∷ 0 ∷ 75 ∷ []) ++ replicate 19 0 ++ (1 ∷ []) ++ counting 97 20 ++ (0 ∷ 12 ∷ []) ++ replicate 5 0 ++ drop 303 six_out))
unfolding computed
six_and_six = tt
