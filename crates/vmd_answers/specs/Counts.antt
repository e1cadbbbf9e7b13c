-- Counts of every section that fit, that are one too large, and that are huge; and IK counts.
-- Written by oracle/samples.sh from the original's answers, not by hand.
use Rattle.std.specs.Prelude.{◌&&◌, [], ◌∷◌, ◌++◌, take, drop, replicate, T}
use Rattle.vmd_format.specs.Computed.{computed}
use Rattle.vmd_answers.specs.Said.{refuses, exports, figures, empty, six}

pub bones_1_in_0 : T (refuses (take 50 empty ++ (1 ∷ 0 ∷ 0 ∷ 0 ∷ [])) 1)
unfolding computed
bones_1_in_0 = tt

pub bones_2_in_0 : T (refuses (take 50 empty ++ (2 ∷ 0 ∷ 0 ∷ 0 ∷ [])) 1)
unfolding computed
bones_2_in_0 = tt

pub bones_2147483647_in_0 : T (refuses (take 50 empty ++ (255 ∷ 255 ∷ 255 ∷ 127 ∷ [])) 1)
unfolding computed
bones_2147483647_in_0 = tt

pub bones_4294967295_in_0 : T (refuses (take 50 empty ++ replicate 4 255) 1)
unfolding computed
bones_4294967295_in_0 = tt

pub bones_38693400_in_0 : T (refuses (take 50 empty ++ (24 ∷ 106 ∷ 78 ∷ 2 ∷ [])) 1)
unfolding computed
bones_38693400_in_0 = tt

pub bones_1_in_110 : T (refuses (take 50 empty ++ (1 ∷ 0 ∷ 0 ∷ 0 ∷ []) ++ replicate 110 7) 1)
unfolding computed
bones_1_in_110 = tt

pub bones_2_in_110 : T (refuses (take 50 empty ++ (2 ∷ 0 ∷ 0 ∷ 0 ∷ []) ++ replicate 110 7) 1)
unfolding computed
bones_2_in_110 = tt

pub bones_2147483647_in_110 : T (refuses (take 50 empty ++ (255 ∷ 255 ∷ 255 ∷ 127 ∷ []) ++ replicate 110 7) 1)
unfolding computed
bones_2147483647_in_110 = tt

pub bones_4294967295_in_110 : T (refuses (take 50 empty ++ replicate 4 255 ++ replicate 110 7) 1)
unfolding computed
bones_4294967295_in_110 = tt

pub bones_38693400_in_110 : T (refuses (take 50 empty ++ (24 ∷ 106 ∷ 78 ∷ 2 ∷ []) ++ replicate 110 7) 1)
unfolding computed
bones_38693400_in_110 = tt

pub bones_1_in_111 : T (exports (take 50 empty ++ (1 ∷ 0 ∷ 0 ∷ 0 ∷ []) ++ replicate 111 7) (take 50 empty ++ (1 ∷ 0 ∷ 0 ∷ 0 ∷ []) ++ replicate 111 7 ++ drop 54 empty) && figures (take 50 empty ++ (1 ∷ 0 ∷ 0 ∷ 0 ∷ []) ++ replicate 111 7) (1 ∷ 0 ∷ 0 ∷ 0 ∷ 0 ∷ 0 ∷ 0 ∷ 0x07070707 ∷ 0x07070707 ∷ []))
unfolding computed
bones_1_in_111 = tt

pub bones_2_in_111 : T (refuses (take 50 empty ++ (2 ∷ 0 ∷ 0 ∷ 0 ∷ []) ++ replicate 111 7) 1)
unfolding computed
bones_2_in_111 = tt

pub bones_2147483647_in_111 : T (refuses (take 50 empty ++ (255 ∷ 255 ∷ 255 ∷ 127 ∷ []) ++ replicate 111 7) 1)
unfolding computed
bones_2147483647_in_111 = tt

pub bones_4294967295_in_111 : T (refuses (take 50 empty ++ replicate 4 255 ++ replicate 111 7) 1)
unfolding computed
bones_4294967295_in_111 = tt

pub bones_38693400_in_111 : T (refuses (take 50 empty ++ (24 ∷ 106 ∷ 78 ∷ 2 ∷ []) ++ replicate 111 7) 1)
unfolding computed
bones_38693400_in_111 = tt

pub bones_1_in_223 : T (refuses (take 50 empty ++ (1 ∷ 0 ∷ 0 ∷ 0 ∷ []) ++ replicate 223 7) 1)
unfolding computed
bones_1_in_223 = tt

pub bones_2_in_223 : T (refuses (take 50 empty ++ (2 ∷ 0 ∷ 0 ∷ 0 ∷ []) ++ replicate 223 7) 1)
unfolding computed
bones_2_in_223 = tt

pub bones_2147483647_in_223 : T (refuses (take 50 empty ++ (255 ∷ 255 ∷ 255 ∷ 127 ∷ []) ++ replicate 223 7) 1)
unfolding computed
bones_2147483647_in_223 = tt

pub bones_4294967295_in_223 : T (refuses (take 50 empty ++ replicate 4 255 ++ replicate 223 7) 1)
unfolding computed
bones_4294967295_in_223 = tt

pub bones_38693400_in_223 : T (refuses (take 50 empty ++ (24 ∷ 106 ∷ 78 ∷ 2 ∷ []) ++ replicate 223 7) 1)
unfolding computed
bones_38693400_in_223 = tt

pub morphs_1_in_0 : T (refuses (take 54 empty ++ (1 ∷ 0 ∷ 0 ∷ 0 ∷ [])) 1)
unfolding computed
morphs_1_in_0 = tt

pub morphs_2_in_0 : T (refuses (take 54 empty ++ (2 ∷ 0 ∷ 0 ∷ 0 ∷ [])) 1)
unfolding computed
morphs_2_in_0 = tt

pub morphs_2147483647_in_0 : T (refuses (take 54 empty ++ (255 ∷ 255 ∷ 255 ∷ 127 ∷ [])) 1)
unfolding computed
morphs_2147483647_in_0 = tt

pub morphs_4294967295_in_0 : T (refuses (take 54 empty ++ replicate 4 255) 1)
unfolding computed
morphs_4294967295_in_0 = tt

pub morphs_186737709_in_0 : T (refuses (take 54 empty ++ (45 ∷ 100 ∷ 33 ∷ 11 ∷ [])) 1)
unfolding computed
morphs_186737709_in_0 = tt

pub morphs_1_in_22 : T (refuses (take 54 empty ++ (1 ∷ 0 ∷ 0 ∷ 0 ∷ []) ++ replicate 22 7) 1)
unfolding computed
morphs_1_in_22 = tt

pub morphs_2_in_22 : T (refuses (take 54 empty ++ (2 ∷ 0 ∷ 0 ∷ 0 ∷ []) ++ replicate 22 7) 1)
unfolding computed
morphs_2_in_22 = tt

pub morphs_2147483647_in_22 : T (refuses (take 54 empty ++ (255 ∷ 255 ∷ 255 ∷ 127 ∷ []) ++ replicate 22 7) 1)
unfolding computed
morphs_2147483647_in_22 = tt

pub morphs_4294967295_in_22 : T (refuses (take 54 empty ++ replicate 4 255 ++ replicate 22 7) 1)
unfolding computed
morphs_4294967295_in_22 = tt

pub morphs_186737709_in_22 : T (refuses (take 54 empty ++ (45 ∷ 100 ∷ 33 ∷ 11 ∷ []) ++ replicate 22 7) 1)
unfolding computed
morphs_186737709_in_22 = tt

pub morphs_1_in_23 : T (exports (take 54 empty ++ (1 ∷ 0 ∷ 0 ∷ 0 ∷ []) ++ replicate 23 7) (take 54 empty ++ (1 ∷ 0 ∷ 0 ∷ 0 ∷ []) ++ replicate 23 7 ++ drop 58 empty) && figures (take 54 empty ++ (1 ∷ 0 ∷ 0 ∷ 0 ∷ []) ++ replicate 23 7) (0 ∷ 1 ∷ 0 ∷ 0 ∷ 0 ∷ 0 ∷ 0 ∷ 0x07070707 ∷ 0x07070707 ∷ []))
unfolding computed
morphs_1_in_23 = tt

pub morphs_2_in_23 : T (refuses (take 54 empty ++ (2 ∷ 0 ∷ 0 ∷ 0 ∷ []) ++ replicate 23 7) 1)
unfolding computed
morphs_2_in_23 = tt

pub morphs_2147483647_in_23 : T (refuses (take 54 empty ++ (255 ∷ 255 ∷ 255 ∷ 127 ∷ []) ++ replicate 23 7) 1)
unfolding computed
morphs_2147483647_in_23 = tt

pub morphs_4294967295_in_23 : T (refuses (take 54 empty ++ replicate 4 255 ++ replicate 23 7) 1)
unfolding computed
morphs_4294967295_in_23 = tt

pub morphs_186737709_in_23 : T (refuses (take 54 empty ++ (45 ∷ 100 ∷ 33 ∷ 11 ∷ []) ++ replicate 23 7) 1)
unfolding computed
morphs_186737709_in_23 = tt

pub morphs_1_in_47 : T (exports (take 54 empty ++ (1 ∷ 0 ∷ 0 ∷ 0 ∷ []) ++ replicate 47 7) (take 54 empty ++ (1 ∷ 0 ∷ 0 ∷ 0 ∷ []) ++ replicate 23 7 ++ drop 58 empty) && figures (take 54 empty ++ (1 ∷ 0 ∷ 0 ∷ 0 ∷ []) ++ replicate 47 7) (0 ∷ 1 ∷ 0 ∷ 0 ∷ 0 ∷ 0 ∷ 0 ∷ 0x07070707 ∷ 0x07070707 ∷ []))
unfolding computed
morphs_1_in_47 = tt

pub morphs_2_in_47 : T (refuses (take 54 empty ++ (2 ∷ 0 ∷ 0 ∷ 0 ∷ []) ++ replicate 47 7) 1)
unfolding computed
morphs_2_in_47 = tt

pub morphs_2147483647_in_47 : T (refuses (take 54 empty ++ (255 ∷ 255 ∷ 255 ∷ 127 ∷ []) ++ replicate 47 7) 1)
unfolding computed
morphs_2147483647_in_47 = tt

pub morphs_4294967295_in_47 : T (refuses (take 54 empty ++ replicate 4 255 ++ replicate 47 7) 1)
unfolding computed
morphs_4294967295_in_47 = tt

pub morphs_186737709_in_47 : T (refuses (take 54 empty ++ (45 ∷ 100 ∷ 33 ∷ 11 ∷ []) ++ replicate 47 7) 1)
unfolding computed
morphs_186737709_in_47 = tt

pub cameras_1_in_0 : T (exports (take 58 empty ++ (1 ∷ 0 ∷ 0 ∷ 0 ∷ [])) empty && figures (take 58 empty ++ (1 ∷ 0 ∷ 0 ∷ 0 ∷ [])) (0 ∷ 0 ∷ 0 ∷ 0 ∷ 0 ∷ 0 ∷ 0 ∷ 0 ∷ 0 ∷ []))
unfolding computed
cameras_1_in_0 = tt

pub cameras_2_in_0 : T (exports (take 58 empty ++ (2 ∷ 0 ∷ 0 ∷ 0 ∷ [])) empty && figures (take 58 empty ++ (2 ∷ 0 ∷ 0 ∷ 0 ∷ [])) (0 ∷ 0 ∷ 0 ∷ 0 ∷ 0 ∷ 0 ∷ 0 ∷ 0 ∷ 0 ∷ []))
unfolding computed
cameras_2_in_0 = tt

pub cameras_2147483647_in_0 : T (exports (take 58 empty ++ (255 ∷ 255 ∷ 255 ∷ 127 ∷ [])) empty && figures (take 58 empty ++ (255 ∷ 255 ∷ 255 ∷ 127 ∷ [])) (0 ∷ 0 ∷ 0 ∷ 0 ∷ 0 ∷ 0 ∷ 0 ∷ 0 ∷ 0 ∷ []))
unfolding computed
cameras_2147483647_in_0 = tt

pub cameras_4294967295_in_0 : T (exports (take 58 empty ++ replicate 4 255) empty && figures (take 58 empty ++ replicate 4 255) (0 ∷ 0 ∷ 0 ∷ 0 ∷ 0 ∷ 0 ∷ 0 ∷ 0 ∷ 0 ∷ []))
unfolding computed
cameras_4294967295_in_0 = tt

pub cameras_70409300_in_0 : T (exports (take 58 empty ++ (84 ∷ 92 ∷ 50 ∷ 4 ∷ [])) empty && figures (take 58 empty ++ (84 ∷ 92 ∷ 50 ∷ 4 ∷ [])) (0 ∷ 0 ∷ 0 ∷ 0 ∷ 0 ∷ 0 ∷ 0 ∷ 0 ∷ 0 ∷ []))
unfolding computed
cameras_70409300_in_0 = tt

pub cameras_1_in_60 : T (exports (take 58 empty ++ (1 ∷ 0 ∷ 0 ∷ 0 ∷ []) ++ replicate 60 7) empty && figures (take 58 empty ++ (1 ∷ 0 ∷ 0 ∷ 0 ∷ []) ++ replicate 60 7) (0 ∷ 0 ∷ 0 ∷ 0 ∷ 0 ∷ 0 ∷ 0 ∷ 0 ∷ 0 ∷ []))
unfolding computed
cameras_1_in_60 = tt

pub cameras_2_in_60 : T (exports (take 58 empty ++ (2 ∷ 0 ∷ 0 ∷ 0 ∷ []) ++ replicate 60 7) empty && figures (take 58 empty ++ (2 ∷ 0 ∷ 0 ∷ 0 ∷ []) ++ replicate 60 7) (0 ∷ 0 ∷ 0 ∷ 0 ∷ 0 ∷ 0 ∷ 0 ∷ 0 ∷ 0 ∷ []))
unfolding computed
cameras_2_in_60 = tt

pub cameras_2147483647_in_60 : T (exports (take 58 empty ++ (255 ∷ 255 ∷ 255 ∷ 127 ∷ []) ++ replicate 60 7) empty && figures (take 58 empty ++ (255 ∷ 255 ∷ 255 ∷ 127 ∷ []) ++ replicate 60 7) (0 ∷ 0 ∷ 0 ∷ 0 ∷ 0 ∷ 0 ∷ 0 ∷ 0 ∷ 0 ∷ []))
unfolding computed
cameras_2147483647_in_60 = tt

pub cameras_4294967295_in_60 : T (exports (take 58 empty ++ replicate 4 255 ++ replicate 60 7) empty && figures (take 58 empty ++ replicate 4 255 ++ replicate 60 7) (0 ∷ 0 ∷ 0 ∷ 0 ∷ 0 ∷ 0 ∷ 0 ∷ 0 ∷ 0 ∷ []))
unfolding computed
cameras_4294967295_in_60 = tt

pub cameras_70409300_in_60 : T (exports (take 58 empty ++ (84 ∷ 92 ∷ 50 ∷ 4 ∷ []) ++ replicate 60 7) empty && figures (take 58 empty ++ (84 ∷ 92 ∷ 50 ∷ 4 ∷ []) ++ replicate 60 7) (0 ∷ 0 ∷ 0 ∷ 0 ∷ 0 ∷ 0 ∷ 0 ∷ 0 ∷ 0 ∷ []))
unfolding computed
cameras_70409300_in_60 = tt

pub cameras_1_in_61 : T (exports (take 58 empty ++ (1 ∷ 0 ∷ 0 ∷ 0 ∷ []) ++ replicate 61 7) (take 58 empty ++ (1 ∷ 0 ∷ 0 ∷ 0 ∷ []) ++ replicate 60 7 ++ (1 ∷ []) ++ drop 62 empty) && figures (take 58 empty ++ (1 ∷ 0 ∷ 0 ∷ 0 ∷ []) ++ replicate 61 7) (0 ∷ 0 ∷ 1 ∷ 0 ∷ 0 ∷ 0 ∷ 0 ∷ 0x07070707 ∷ 0x07070707 ∷ []))
unfolding computed
cameras_1_in_61 = tt

pub cameras_2_in_61 : T (exports (take 58 empty ++ (2 ∷ 0 ∷ 0 ∷ 0 ∷ []) ++ replicate 61 7) empty && figures (take 58 empty ++ (2 ∷ 0 ∷ 0 ∷ 0 ∷ []) ++ replicate 61 7) (0 ∷ 0 ∷ 0 ∷ 0 ∷ 0 ∷ 0 ∷ 0 ∷ 0 ∷ 0 ∷ []))
unfolding computed
cameras_2_in_61 = tt

pub cameras_2147483647_in_61 : T (exports (take 58 empty ++ (255 ∷ 255 ∷ 255 ∷ 127 ∷ []) ++ replicate 61 7) empty && figures (take 58 empty ++ (255 ∷ 255 ∷ 255 ∷ 127 ∷ []) ++ replicate 61 7) (0 ∷ 0 ∷ 0 ∷ 0 ∷ 0 ∷ 0 ∷ 0 ∷ 0 ∷ 0 ∷ []))
unfolding computed
cameras_2147483647_in_61 = tt

pub cameras_4294967295_in_61 : T (exports (take 58 empty ++ replicate 4 255 ++ replicate 61 7) empty && figures (take 58 empty ++ replicate 4 255 ++ replicate 61 7) (0 ∷ 0 ∷ 0 ∷ 0 ∷ 0 ∷ 0 ∷ 0 ∷ 0 ∷ 0 ∷ []))
unfolding computed
cameras_4294967295_in_61 = tt

pub cameras_70409300_in_61 : T (exports (take 58 empty ++ (84 ∷ 92 ∷ 50 ∷ 4 ∷ []) ++ replicate 61 7) empty && figures (take 58 empty ++ (84 ∷ 92 ∷ 50 ∷ 4 ∷ []) ++ replicate 61 7) (0 ∷ 0 ∷ 0 ∷ 0 ∷ 0 ∷ 0 ∷ 0 ∷ 0 ∷ 0 ∷ []))
unfolding computed
cameras_70409300_in_61 = tt

pub cameras_1_in_123 : T (exports (take 58 empty ++ (1 ∷ 0 ∷ 0 ∷ 0 ∷ []) ++ replicate 123 7) (take 58 empty ++ (1 ∷ 0 ∷ 0 ∷ 0 ∷ []) ++ replicate 60 7 ++ (1 ∷ []) ++ drop 62 empty) && figures (take 58 empty ++ (1 ∷ 0 ∷ 0 ∷ 0 ∷ []) ++ replicate 123 7) (0 ∷ 0 ∷ 1 ∷ 0 ∷ 0 ∷ 0 ∷ 0 ∷ 0x07070707 ∷ 0x07070707 ∷ []))
unfolding computed
cameras_1_in_123 = tt

pub cameras_2_in_123 : T (refuses (take 58 empty ++ (2 ∷ 0 ∷ 0 ∷ 0 ∷ []) ++ replicate 123 7) 1)
unfolding computed
cameras_2_in_123 = tt

pub cameras_2147483647_in_123 : T (exports (take 58 empty ++ (255 ∷ 255 ∷ 255 ∷ 127 ∷ []) ++ replicate 123 7) empty && figures (take 58 empty ++ (255 ∷ 255 ∷ 255 ∷ 127 ∷ []) ++ replicate 123 7) (0 ∷ 0 ∷ 0 ∷ 0 ∷ 0 ∷ 0 ∷ 0 ∷ 0 ∷ 0 ∷ []))
unfolding computed
cameras_2147483647_in_123 = tt

pub cameras_4294967295_in_123 : T (exports (take 58 empty ++ replicate 4 255 ++ replicate 123 7) empty && figures (take 58 empty ++ replicate 4 255 ++ replicate 123 7) (0 ∷ 0 ∷ 0 ∷ 0 ∷ 0 ∷ 0 ∷ 0 ∷ 0 ∷ 0 ∷ []))
unfolding computed
cameras_4294967295_in_123 = tt

pub cameras_70409300_in_123 : T (exports (take 58 empty ++ (84 ∷ 92 ∷ 50 ∷ 4 ∷ []) ++ replicate 123 7) empty && figures (take 58 empty ++ (84 ∷ 92 ∷ 50 ∷ 4 ∷ []) ++ replicate 123 7) (0 ∷ 0 ∷ 0 ∷ 0 ∷ 0 ∷ 0 ∷ 0 ∷ 0 ∷ 0 ∷ []))
unfolding computed
cameras_70409300_in_123 = tt

pub lights_1_in_0 : T (exports (take 62 empty ++ (1 ∷ 0 ∷ 0 ∷ 0 ∷ [])) empty && figures (take 62 empty ++ (1 ∷ 0 ∷ 0 ∷ 0 ∷ [])) (0 ∷ 0 ∷ 0 ∷ 0 ∷ 0 ∷ 0 ∷ 0 ∷ 0 ∷ 0 ∷ []))
unfolding computed
lights_1_in_0 = tt

pub lights_2_in_0 : T (exports (take 62 empty ++ (2 ∷ 0 ∷ 0 ∷ 0 ∷ [])) empty && figures (take 62 empty ++ (2 ∷ 0 ∷ 0 ∷ 0 ∷ [])) (0 ∷ 0 ∷ 0 ∷ 0 ∷ 0 ∷ 0 ∷ 0 ∷ 0 ∷ 0 ∷ []))
unfolding computed
lights_2_in_0 = tt

pub lights_2147483647_in_0 : T (exports (take 62 empty ++ (255 ∷ 255 ∷ 255 ∷ 127 ∷ [])) empty && figures (take 62 empty ++ (255 ∷ 255 ∷ 255 ∷ 127 ∷ [])) (0 ∷ 0 ∷ 0 ∷ 0 ∷ 0 ∷ 0 ∷ 0 ∷ 0 ∷ 0 ∷ []))
unfolding computed
lights_2147483647_in_0 = tt

pub lights_4294967295_in_0 : T (exports (take 62 empty ++ replicate 4 255) empty && figures (take 62 empty ++ replicate 4 255) (0 ∷ 0 ∷ 0 ∷ 0 ∷ 0 ∷ 0 ∷ 0 ∷ 0 ∷ 0 ∷ []))
unfolding computed
lights_4294967295_in_0 = tt

pub lights_153391690_in_0 : T (exports (take 62 empty ++ (74 ∷ 146 ∷ 36 ∷ 9 ∷ [])) empty && figures (take 62 empty ++ (74 ∷ 146 ∷ 36 ∷ 9 ∷ [])) (0 ∷ 0 ∷ 0 ∷ 0 ∷ 0 ∷ 0 ∷ 0 ∷ 0 ∷ 0 ∷ []))
unfolding computed
lights_153391690_in_0 = tt

pub lights_1_in_27 : T (exports (take 62 empty ++ (1 ∷ 0 ∷ 0 ∷ 0 ∷ []) ++ replicate 27 7) empty && figures (take 62 empty ++ (1 ∷ 0 ∷ 0 ∷ 0 ∷ []) ++ replicate 27 7) (0 ∷ 0 ∷ 0 ∷ 0 ∷ 0 ∷ 0 ∷ 0 ∷ 0 ∷ 0 ∷ []))
unfolding computed
lights_1_in_27 = tt

pub lights_2_in_27 : T (exports (take 62 empty ++ (2 ∷ 0 ∷ 0 ∷ 0 ∷ []) ++ replicate 27 7) empty && figures (take 62 empty ++ (2 ∷ 0 ∷ 0 ∷ 0 ∷ []) ++ replicate 27 7) (0 ∷ 0 ∷ 0 ∷ 0 ∷ 0 ∷ 0 ∷ 0 ∷ 0 ∷ 0 ∷ []))
unfolding computed
lights_2_in_27 = tt

pub lights_2147483647_in_27 : T (exports (take 62 empty ++ (255 ∷ 255 ∷ 255 ∷ 127 ∷ []) ++ replicate 27 7) empty && figures (take 62 empty ++ (255 ∷ 255 ∷ 255 ∷ 127 ∷ []) ++ replicate 27 7) (0 ∷ 0 ∷ 0 ∷ 0 ∷ 0 ∷ 0 ∷ 0 ∷ 0 ∷ 0 ∷ []))
unfolding computed
lights_2147483647_in_27 = tt

pub lights_4294967295_in_27 : T (exports (take 62 empty ++ replicate 4 255 ++ replicate 27 7) empty && figures (take 62 empty ++ replicate 4 255 ++ replicate 27 7) (0 ∷ 0 ∷ 0 ∷ 0 ∷ 0 ∷ 0 ∷ 0 ∷ 0 ∷ 0 ∷ []))
unfolding computed
lights_4294967295_in_27 = tt

pub lights_153391690_in_27 : T (exports (take 62 empty ++ (74 ∷ 146 ∷ 36 ∷ 9 ∷ []) ++ replicate 27 7) empty && figures (take 62 empty ++ (74 ∷ 146 ∷ 36 ∷ 9 ∷ []) ++ replicate 27 7) (0 ∷ 0 ∷ 0 ∷ 0 ∷ 0 ∷ 0 ∷ 0 ∷ 0 ∷ 0 ∷ []))
unfolding computed
lights_153391690_in_27 = tt

pub lights_1_in_28 : T (exports (take 62 empty ++ (1 ∷ 0 ∷ 0 ∷ 0 ∷ []) ++ replicate 28 7) (take 62 empty ++ (1 ∷ 0 ∷ 0 ∷ 0 ∷ []) ++ replicate 28 7 ++ drop 66 empty) && figures (take 62 empty ++ (1 ∷ 0 ∷ 0 ∷ 0 ∷ []) ++ replicate 28 7) (0 ∷ 0 ∷ 0 ∷ 1 ∷ 0 ∷ 0 ∷ 0 ∷ 0x07070707 ∷ 0x07070707 ∷ []))
unfolding computed
lights_1_in_28 = tt

pub lights_2_in_28 : T (exports (take 62 empty ++ (2 ∷ 0 ∷ 0 ∷ 0 ∷ []) ++ replicate 28 7) empty && figures (take 62 empty ++ (2 ∷ 0 ∷ 0 ∷ 0 ∷ []) ++ replicate 28 7) (0 ∷ 0 ∷ 0 ∷ 0 ∷ 0 ∷ 0 ∷ 0 ∷ 0 ∷ 0 ∷ []))
unfolding computed
lights_2_in_28 = tt

pub lights_2147483647_in_28 : T (exports (take 62 empty ++ (255 ∷ 255 ∷ 255 ∷ 127 ∷ []) ++ replicate 28 7) empty && figures (take 62 empty ++ (255 ∷ 255 ∷ 255 ∷ 127 ∷ []) ++ replicate 28 7) (0 ∷ 0 ∷ 0 ∷ 0 ∷ 0 ∷ 0 ∷ 0 ∷ 0 ∷ 0 ∷ []))
unfolding computed
lights_2147483647_in_28 = tt

pub lights_4294967295_in_28 : T (exports (take 62 empty ++ replicate 4 255 ++ replicate 28 7) empty && figures (take 62 empty ++ replicate 4 255 ++ replicate 28 7) (0 ∷ 0 ∷ 0 ∷ 0 ∷ 0 ∷ 0 ∷ 0 ∷ 0 ∷ 0 ∷ []))
unfolding computed
lights_4294967295_in_28 = tt

pub lights_153391690_in_28 : T (exports (take 62 empty ++ (74 ∷ 146 ∷ 36 ∷ 9 ∷ []) ++ replicate 28 7) empty && figures (take 62 empty ++ (74 ∷ 146 ∷ 36 ∷ 9 ∷ []) ++ replicate 28 7) (0 ∷ 0 ∷ 0 ∷ 0 ∷ 0 ∷ 0 ∷ 0 ∷ 0 ∷ 0 ∷ []))
unfolding computed
lights_153391690_in_28 = tt

pub lights_1_in_57 : T (exports (take 62 empty ++ (1 ∷ 0 ∷ 0 ∷ 0 ∷ []) ++ replicate 57 7) (take 62 empty ++ (1 ∷ 0 ∷ 0 ∷ 0 ∷ []) ++ replicate 28 7 ++ drop 66 empty) && figures (take 62 empty ++ (1 ∷ 0 ∷ 0 ∷ 0 ∷ []) ++ replicate 57 7) (0 ∷ 0 ∷ 0 ∷ 1 ∷ 0 ∷ 0 ∷ 0 ∷ 0x07070707 ∷ 0x07070707 ∷ []))
unfolding computed
lights_1_in_57 = tt

pub lights_2_in_57 : T (refuses (take 62 empty ++ (2 ∷ 0 ∷ 0 ∷ 0 ∷ []) ++ replicate 57 7) 1)
unfolding computed
lights_2_in_57 = tt

pub lights_2147483647_in_57 : T (exports (take 62 empty ++ (255 ∷ 255 ∷ 255 ∷ 127 ∷ []) ++ replicate 57 7) empty && figures (take 62 empty ++ (255 ∷ 255 ∷ 255 ∷ 127 ∷ []) ++ replicate 57 7) (0 ∷ 0 ∷ 0 ∷ 0 ∷ 0 ∷ 0 ∷ 0 ∷ 0 ∷ 0 ∷ []))
unfolding computed
lights_2147483647_in_57 = tt

pub lights_4294967295_in_57 : T (exports (take 62 empty ++ replicate 4 255 ++ replicate 57 7) empty && figures (take 62 empty ++ replicate 4 255 ++ replicate 57 7) (0 ∷ 0 ∷ 0 ∷ 0 ∷ 0 ∷ 0 ∷ 0 ∷ 0 ∷ 0 ∷ []))
unfolding computed
lights_4294967295_in_57 = tt

pub lights_153391690_in_57 : T (exports (take 62 empty ++ (74 ∷ 146 ∷ 36 ∷ 9 ∷ []) ++ replicate 57 7) empty && figures (take 62 empty ++ (74 ∷ 146 ∷ 36 ∷ 9 ∷ []) ++ replicate 57 7) (0 ∷ 0 ∷ 0 ∷ 0 ∷ 0 ∷ 0 ∷ 0 ∷ 0 ∷ 0 ∷ []))
unfolding computed
lights_153391690_in_57 = tt

pub self_shadows_1_in_0 : T (exports (take 66 empty ++ (1 ∷ 0 ∷ 0 ∷ 0 ∷ [])) empty && figures (take 66 empty ++ (1 ∷ 0 ∷ 0 ∷ 0 ∷ [])) (0 ∷ 0 ∷ 0 ∷ 0 ∷ 0 ∷ 0 ∷ 0 ∷ 0 ∷ 0 ∷ []))
unfolding computed
self_shadows_1_in_0 = tt

pub self_shadows_2_in_0 : T (exports (take 66 empty ++ (2 ∷ 0 ∷ 0 ∷ 0 ∷ [])) empty && figures (take 66 empty ++ (2 ∷ 0 ∷ 0 ∷ 0 ∷ [])) (0 ∷ 0 ∷ 0 ∷ 0 ∷ 0 ∷ 0 ∷ 0 ∷ 0 ∷ 0 ∷ []))
unfolding computed
self_shadows_2_in_0 = tt

pub self_shadows_2147483647_in_0 : T (exports (take 66 empty ++ (255 ∷ 255 ∷ 255 ∷ 127 ∷ [])) empty && figures (take 66 empty ++ (255 ∷ 255 ∷ 255 ∷ 127 ∷ [])) (0 ∷ 0 ∷ 0 ∷ 0 ∷ 0 ∷ 0 ∷ 0 ∷ 0 ∷ 0 ∷ []))
unfolding computed
self_shadows_2147483647_in_0 = tt

pub self_shadows_4294967295_in_0 : T (exports (take 66 empty ++ replicate 4 255) empty && figures (take 66 empty ++ replicate 4 255) (0 ∷ 0 ∷ 0 ∷ 0 ∷ 0 ∷ 0 ∷ 0 ∷ 0 ∷ 0 ∷ []))
unfolding computed
self_shadows_4294967295_in_0 = tt

pub self_shadows_477218589_in_0 : T (exports (take 66 empty ++ (29 ∷ 199 ∷ 113 ∷ 28 ∷ [])) empty && figures (take 66 empty ++ (29 ∷ 199 ∷ 113 ∷ 28 ∷ [])) (0 ∷ 0 ∷ 0 ∷ 0 ∷ 0 ∷ 0 ∷ 0 ∷ 0 ∷ 0 ∷ []))
unfolding computed
self_shadows_477218589_in_0 = tt

pub self_shadows_1_in_8 : T (exports (take 66 empty ++ (1 ∷ 0 ∷ 0 ∷ 0 ∷ []) ++ replicate 8 7) empty && figures (take 66 empty ++ (1 ∷ 0 ∷ 0 ∷ 0 ∷ []) ++ replicate 8 7) (0 ∷ 0 ∷ 0 ∷ 0 ∷ 0 ∷ 0 ∷ 0 ∷ 0 ∷ 0 ∷ []))
unfolding computed
self_shadows_1_in_8 = tt

pub self_shadows_2_in_8 : T (exports (take 66 empty ++ (2 ∷ 0 ∷ 0 ∷ 0 ∷ []) ++ replicate 8 7) empty && figures (take 66 empty ++ (2 ∷ 0 ∷ 0 ∷ 0 ∷ []) ++ replicate 8 7) (0 ∷ 0 ∷ 0 ∷ 0 ∷ 0 ∷ 0 ∷ 0 ∷ 0 ∷ 0 ∷ []))
unfolding computed
self_shadows_2_in_8 = tt

pub self_shadows_2147483647_in_8 : T (exports (take 66 empty ++ (255 ∷ 255 ∷ 255 ∷ 127 ∷ []) ++ replicate 8 7) empty && figures (take 66 empty ++ (255 ∷ 255 ∷ 255 ∷ 127 ∷ []) ++ replicate 8 7) (0 ∷ 0 ∷ 0 ∷ 0 ∷ 0 ∷ 0 ∷ 0 ∷ 0 ∷ 0 ∷ []))
unfolding computed
self_shadows_2147483647_in_8 = tt

pub self_shadows_4294967295_in_8 : T (exports (take 66 empty ++ replicate 4 255 ++ replicate 8 7) empty && figures (take 66 empty ++ replicate 4 255 ++ replicate 8 7) (0 ∷ 0 ∷ 0 ∷ 0 ∷ 0 ∷ 0 ∷ 0 ∷ 0 ∷ 0 ∷ []))
unfolding computed
self_shadows_4294967295_in_8 = tt

pub self_shadows_477218589_in_8 : T (exports (take 66 empty ++ (29 ∷ 199 ∷ 113 ∷ 28 ∷ []) ++ replicate 8 7) empty && figures (take 66 empty ++ (29 ∷ 199 ∷ 113 ∷ 28 ∷ []) ++ replicate 8 7) (0 ∷ 0 ∷ 0 ∷ 0 ∷ 0 ∷ 0 ∷ 0 ∷ 0 ∷ 0 ∷ []))
unfolding computed
self_shadows_477218589_in_8 = tt

pub self_shadows_1_in_9 : T (exports (take 66 empty ++ (1 ∷ 0 ∷ 0 ∷ 0 ∷ []) ++ replicate 9 7) (take 66 empty ++ (1 ∷ 0 ∷ 0 ∷ 0 ∷ []) ++ replicate 9 7 ++ replicate 4 0) && figures (take 66 empty ++ (1 ∷ 0 ∷ 0 ∷ 0 ∷ []) ++ replicate 9 7) (0 ∷ 0 ∷ 0 ∷ 0 ∷ 1 ∷ 0 ∷ 0 ∷ 0x07070707 ∷ 0x07070707 ∷ []))
unfolding computed
self_shadows_1_in_9 = tt

pub self_shadows_2_in_9 : T (exports (take 66 empty ++ (2 ∷ 0 ∷ 0 ∷ 0 ∷ []) ++ replicate 9 7) empty && figures (take 66 empty ++ (2 ∷ 0 ∷ 0 ∷ 0 ∷ []) ++ replicate 9 7) (0 ∷ 0 ∷ 0 ∷ 0 ∷ 0 ∷ 0 ∷ 0 ∷ 0 ∷ 0 ∷ []))
unfolding computed
self_shadows_2_in_9 = tt

pub self_shadows_2147483647_in_9 : T (exports (take 66 empty ++ (255 ∷ 255 ∷ 255 ∷ 127 ∷ []) ++ replicate 9 7) empty && figures (take 66 empty ++ (255 ∷ 255 ∷ 255 ∷ 127 ∷ []) ++ replicate 9 7) (0 ∷ 0 ∷ 0 ∷ 0 ∷ 0 ∷ 0 ∷ 0 ∷ 0 ∷ 0 ∷ []))
unfolding computed
self_shadows_2147483647_in_9 = tt

pub self_shadows_4294967295_in_9 : T (exports (take 66 empty ++ replicate 4 255 ++ replicate 9 7) empty && figures (take 66 empty ++ replicate 4 255 ++ replicate 9 7) (0 ∷ 0 ∷ 0 ∷ 0 ∷ 0 ∷ 0 ∷ 0 ∷ 0 ∷ 0 ∷ []))
unfolding computed
self_shadows_4294967295_in_9 = tt

pub self_shadows_477218589_in_9 : T (exports (take 66 empty ++ (29 ∷ 199 ∷ 113 ∷ 28 ∷ []) ++ replicate 9 7) empty && figures (take 66 empty ++ (29 ∷ 199 ∷ 113 ∷ 28 ∷ []) ++ replicate 9 7) (0 ∷ 0 ∷ 0 ∷ 0 ∷ 0 ∷ 0 ∷ 0 ∷ 0 ∷ 0 ∷ []))
unfolding computed
self_shadows_477218589_in_9 = tt

pub self_shadows_1_in_19 : T (refuses (take 66 empty ++ (1 ∷ 0 ∷ 0 ∷ 0 ∷ []) ++ replicate 19 7) 1)
unfolding computed
self_shadows_1_in_19 = tt

pub self_shadows_2_in_19 : T (refuses (take 66 empty ++ (2 ∷ 0 ∷ 0 ∷ 0 ∷ []) ++ replicate 19 7) 1)
unfolding computed
self_shadows_2_in_19 = tt

pub self_shadows_2147483647_in_19 : T (exports (take 66 empty ++ (255 ∷ 255 ∷ 255 ∷ 127 ∷ []) ++ replicate 19 7) empty && figures (take 66 empty ++ (255 ∷ 255 ∷ 255 ∷ 127 ∷ []) ++ replicate 19 7) (0 ∷ 0 ∷ 0 ∷ 0 ∷ 0 ∷ 0 ∷ 0 ∷ 0 ∷ 0 ∷ []))
unfolding computed
self_shadows_2147483647_in_19 = tt

pub self_shadows_4294967295_in_19 : T (exports (take 66 empty ++ replicate 4 255 ++ replicate 19 7) empty && figures (take 66 empty ++ replicate 4 255 ++ replicate 19 7) (0 ∷ 0 ∷ 0 ∷ 0 ∷ 0 ∷ 0 ∷ 0 ∷ 0 ∷ 0 ∷ []))
unfolding computed
self_shadows_4294967295_in_19 = tt

pub self_shadows_477218589_in_19 : T (exports (take 66 empty ++ (29 ∷ 199 ∷ 113 ∷ 28 ∷ []) ++ replicate 19 7) empty && figures (take 66 empty ++ (29 ∷ 199 ∷ 113 ∷ 28 ∷ []) ++ replicate 19 7) (0 ∷ 0 ∷ 0 ∷ 0 ∷ 0 ∷ 0 ∷ 0 ∷ 0 ∷ 0 ∷ []))
unfolding computed
self_shadows_477218589_in_19 = tt

pub properties_1_in_0 : T (refuses (take 70 empty ++ (1 ∷ 0 ∷ 0 ∷ 0 ∷ [])) 1)
unfolding computed
properties_1_in_0 = tt

pub properties_2_in_0 : T (refuses (take 70 empty ++ (2 ∷ 0 ∷ 0 ∷ 0 ∷ [])) 1)
unfolding computed
properties_2_in_0 = tt

pub properties_2147483647_in_0 : T (refuses (take 70 empty ++ (255 ∷ 255 ∷ 255 ∷ 127 ∷ [])) 1)
unfolding computed
properties_2147483647_in_0 = tt

pub properties_4294967295_in_0 : T (refuses (take 70 empty ++ replicate 4 255) 1)
unfolding computed
properties_4294967295_in_0 = tt

pub properties_477218589_in_0 : T (refuses (take 70 empty ++ (29 ∷ 199 ∷ 113 ∷ 28 ∷ [])) 1)
unfolding computed
properties_477218589_in_0 = tt

pub properties_1_in_8 : T (refuses (take 70 empty ++ (1 ∷ 0 ∷ 0 ∷ 0 ∷ []) ++ replicate 8 7) 1)
unfolding computed
properties_1_in_8 = tt

pub properties_2_in_8 : T (refuses (take 70 empty ++ (2 ∷ 0 ∷ 0 ∷ 0 ∷ []) ++ replicate 8 7) 1)
unfolding computed
properties_2_in_8 = tt

pub properties_2147483647_in_8 : T (refuses (take 70 empty ++ (255 ∷ 255 ∷ 255 ∷ 127 ∷ []) ++ replicate 8 7) 1)
unfolding computed
properties_2147483647_in_8 = tt

pub properties_4294967295_in_8 : T (refuses (take 70 empty ++ replicate 4 255 ++ replicate 8 7) 1)
unfolding computed
properties_4294967295_in_8 = tt

pub properties_477218589_in_8 : T (refuses (take 70 empty ++ (29 ∷ 199 ∷ 113 ∷ 28 ∷ []) ++ replicate 8 7) 1)
unfolding computed
properties_477218589_in_8 = tt

pub properties_1_in_9 : T (refuses (take 70 empty ++ (1 ∷ 0 ∷ 0 ∷ 0 ∷ []) ++ replicate 9 7) 1)
unfolding computed
properties_1_in_9 = tt

pub properties_2_in_9 : T (refuses (take 70 empty ++ (2 ∷ 0 ∷ 0 ∷ 0 ∷ []) ++ replicate 9 7) 1)
unfolding computed
properties_2_in_9 = tt

pub properties_2147483647_in_9 : T (refuses (take 70 empty ++ (255 ∷ 255 ∷ 255 ∷ 127 ∷ []) ++ replicate 9 7) 1)
unfolding computed
properties_2147483647_in_9 = tt

pub properties_4294967295_in_9 : T (refuses (take 70 empty ++ replicate 4 255 ++ replicate 9 7) 1)
unfolding computed
properties_4294967295_in_9 = tt

pub properties_477218589_in_9 : T (refuses (take 70 empty ++ (29 ∷ 199 ∷ 113 ∷ 28 ∷ []) ++ replicate 9 7) 1)
unfolding computed
properties_477218589_in_9 = tt

pub properties_1_in_19 : T (refuses (take 70 empty ++ (1 ∷ 0 ∷ 0 ∷ 0 ∷ []) ++ replicate 19 7) 1)
unfolding computed
properties_1_in_19 = tt

pub properties_2_in_19 : T (refuses (take 70 empty ++ (2 ∷ 0 ∷ 0 ∷ 0 ∷ []) ++ replicate 19 7) 1)
unfolding computed
properties_2_in_19 = tt

pub properties_2147483647_in_19 : T (refuses (take 70 empty ++ (255 ∷ 255 ∷ 255 ∷ 127 ∷ []) ++ replicate 19 7) 1)
unfolding computed
properties_2147483647_in_19 = tt

pub properties_4294967295_in_19 : T (refuses (take 70 empty ++ replicate 4 255 ++ replicate 19 7) 1)
unfolding computed
properties_4294967295_in_19 = tt

pub properties_477218589_in_19 : T (refuses (take 70 empty ++ (29 ∷ 199 ∷ 113 ∷ 28 ∷ []) ++ replicate 19 7) 1)
unfolding computed
properties_477218589_in_19 = tt

pub ik_states_0 : T (refuses (take 311 six ++ (0 ∷ []) ++ drop 312 six) 1)
unfolding computed
ik_states_0 = tt

pub ik_states_1 : T (refuses (take 311 six ++ (1 ∷ []) ++ drop 312 six) 1)
unfolding computed
ik_states_1 = tt

pub ik_states_3 : T (refuses (take 311 six ++ (3 ∷ []) ++ drop 312 six) 1)
unfolding computed
ik_states_3 = tt

pub ik_states_4 : T (refuses (take 311 six ++ (4 ∷ []) ++ drop 312 six) 1)
unfolding computed
ik_states_4 = tt

pub ik_states_2147483647 : T (refuses (take 311 six ++ (255 ∷ 255 ∷ 255 ∷ 127 ∷ []) ++ drop 315 six) 1)
unfolding computed
ik_states_2147483647 = tt

pub ik_states_4294967295 : T (refuses (take 311 six ++ replicate 4 255 ++ drop 315 six) 1)
unfolding computed
ik_states_4294967295 = tt

pub ik_states_204522253 : T (refuses (take 311 six ++ (13 ∷ 195 ∷ 48 ∷ 12 ∷ []) ++ drop 315 six) 1)
unfolding computed
ik_states_204522253 = tt
