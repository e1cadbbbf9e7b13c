-- Document 01's takes, every prefix of the empty take, and every byte of its header changed.
-- Written by oracle/samples.sh from the original's answers, not by hand.
use Rattle.std.specs.Prelude.{◌&&◌, [], ◌∷◌, ◌++◌, take, drop, replicate, T}
use Rattle.vmd_format.specs.Computed.{computed}
use Rattle.vmd_answers.specs.Said.{refuses, exports, figures, magic, empty, six}

pub take_0 : T (refuses (take 29 empty) 1)
unfolding computed
take_0 = tt

pub take_1 : T (refuses (replicate 30 65) 2)
unfolding computed
take_1 = tt

pub take_2 : T (refuses (take 50 empty) 1)
unfolding computed
take_2 = tt

pub take_3 : T (exports (take 54 empty) empty && figures (take 54 empty) (0 ∷ 0 ∷ 0 ∷ 0 ∷ 0 ∷ 0 ∷ 0 ∷ 0 ∷ 0 ∷ []))
unfolding computed
take_3 = tt

pub take_4 : T (refuses (take 54 empty ++ (7 ∷ [])) 1)
unfolding computed
take_4 = tt

pub take_5 : T (refuses (take 54 empty ++ (1 ∷ 0 ∷ 0 ∷ 0 ∷ [])) 1)
unfolding computed
take_5 = tt

pub take_6 : T (exports (take 58 empty ++ (1 ∷ 0 ∷ 0 ∷ 0 ∷ [])) empty && figures (take 58 empty ++ (1 ∷ 0 ∷ 0 ∷ 0 ∷ [])) (0 ∷ 0 ∷ 0 ∷ 0 ∷ 0 ∷ 0 ∷ 0 ∷ 0 ∷ 0 ∷ []))
unfolding computed
take_6 = tt

pub take_7 : T (refuses (take 70 empty ++ (1 ∷ 0 ∷ 0 ∷ 0 ∷ [])) 1)
unfolding computed
take_7 = tt

pub take_8 : T (exports (magic ++ replicate 32 0 ++ (1 ∷ []) ++ replicate 64 0) (magic ++ replicate 32 0 ++ (1 ∷ []) ++ replicate 76 0) && figures (magic ++ replicate 32 0 ++ (1 ∷ []) ++ replicate 64 0) (0 ∷ 0 ∷ 1 ∷ 0 ∷ 0 ∷ 0 ∷ 0 ∷ 0 ∷ 0 ∷ []))
unfolding computed
take_8 = tt

pub take_9 : T (exports (take 58 empty ++ (1 ∷ []) ++ replicate 63 0 ++ (1 ∷ [])) (take 58 empty ++ (1 ∷ []) ++ replicate 63 0 ++ (1 ∷ []) ++ drop 62 empty) && figures (take 58 empty ++ (1 ∷ []) ++ replicate 63 0 ++ (1 ∷ [])) (0 ∷ 0 ∷ 1 ∷ 0 ∷ 0 ∷ 0 ∷ 0 ∷ 0 ∷ 0 ∷ []))
unfolding computed
take_9 = tt

pub take_10 : T (exports (take 58 empty ++ (1 ∷ []) ++ replicate 63 0 ++ (2 ∷ [])) (take 58 empty ++ (1 ∷ []) ++ replicate 63 0 ++ (1 ∷ []) ++ drop 62 empty) && figures (take 58 empty ++ (1 ∷ []) ++ replicate 63 0 ++ (2 ∷ [])) (0 ∷ 0 ∷ 1 ∷ 0 ∷ 0 ∷ 0 ∷ 0 ∷ 0 ∷ 0 ∷ []))
unfolding computed
take_10 = tt

pub take_11 : T (exports (take 54 empty ++ (1 ∷ 0 ∷ 0 ∷ 0 ∷ 65 ∷ 0 ∷ 66 ∷ []) ++ drop 54 empty) (magic ++ replicate 28 0 ++ (1 ∷ 0 ∷ 0 ∷ 0 ∷ 65 ∷ []) ++ replicate 38 0) && figures (take 54 empty ++ (1 ∷ 0 ∷ 0 ∷ 0 ∷ 65 ∷ 0 ∷ 66 ∷ []) ++ drop 54 empty) (0 ∷ 1 ∷ 0 ∷ 0 ∷ 0 ∷ 0 ∷ 0 ∷ 0 ∷ 0 ∷ []))
unfolding computed
take_11 = tt

pub take_12 : T (exports (magic ++ replicate 24 0 ++ (1 ∷ []) ++ replicate 134 0) (magic ++ replicate 24 0 ++ (1 ∷ []) ++ replicate 134 0) && figures (magic ++ replicate 24 0 ++ (1 ∷ []) ++ replicate 134 0) (1 ∷ 0 ∷ 0 ∷ 0 ∷ 0 ∷ 0 ∷ 0 ∷ 0 ∷ 0 ∷ []))
unfolding computed
take_12 = tt

pub prefix_0 : T (refuses [] 1)
unfolding computed
prefix_0 = tt

pub prefix_1 : T (refuses (86 ∷ []) 1)
unfolding computed
prefix_1 = tt

pub prefix_2 : T (refuses (86 ∷ 111 ∷ []) 1)
unfolding computed
prefix_2 = tt

pub prefix_3 : T (refuses (86 ∷ 111 ∷ 99 ∷ []) 1)
unfolding computed
prefix_3 = tt

pub prefix_4 : T (refuses (86 ∷ 111 ∷ 99 ∷ 97 ∷ []) 1)
unfolding computed
prefix_4 = tt

pub prefix_5 : T (refuses (86 ∷ 111 ∷ 99 ∷ 97 ∷ 108 ∷ []) 1)
unfolding computed
prefix_5 = tt

pub prefix_6 : T (refuses (86 ∷ 111 ∷ 99 ∷ 97 ∷ 108 ∷ 111 ∷ []) 1)
unfolding computed
prefix_6 = tt

pub prefix_7 : T (refuses (86 ∷ 111 ∷ 99 ∷ 97 ∷ 108 ∷ 111 ∷ 105 ∷ []) 1)
unfolding computed
prefix_7 = tt

pub prefix_8 : T (refuses (take 8 six) 1)
unfolding computed
prefix_8 = tt

pub prefix_9 : T (refuses (take 9 six) 1)
unfolding computed
prefix_9 = tt

pub prefix_10 : T (refuses (take 10 six) 1)
unfolding computed
prefix_10 = tt

pub prefix_11 : T (refuses (take 11 six) 1)
unfolding computed
prefix_11 = tt

pub prefix_12 : T (refuses (take 12 six) 1)
unfolding computed
prefix_12 = tt

pub prefix_13 : T (refuses (take 13 six) 1)
unfolding computed
prefix_13 = tt

pub prefix_14 : T (refuses (take 14 six) 1)
unfolding computed
prefix_14 = tt

pub prefix_15 : T (refuses (take 15 six) 1)
unfolding computed
prefix_15 = tt

pub prefix_16 : T (refuses (take 16 six) 1)
unfolding computed
prefix_16 = tt

pub prefix_17 : T (refuses (take 17 six) 1)
unfolding computed
prefix_17 = tt

pub prefix_18 : T (refuses (take 18 six) 1)
unfolding computed
prefix_18 = tt

pub prefix_19 : T (refuses (take 19 six) 1)
unfolding computed
prefix_19 = tt

pub prefix_20 : T (refuses (take 20 six) 1)
unfolding computed
prefix_20 = tt

pub prefix_21 : T (refuses (take 21 six) 1)
unfolding computed
prefix_21 = tt

pub prefix_22 : T (refuses (take 22 six) 1)
unfolding computed
prefix_22 = tt

pub prefix_23 : T (refuses (take 23 six) 1)
unfolding computed
prefix_23 = tt

pub prefix_24 : T (refuses (take 24 six) 1)
unfolding computed
prefix_24 = tt

pub prefix_25 : T (refuses (take 25 six) 1)
unfolding computed
prefix_25 = tt

pub prefix_26 : T (refuses magic 1)
unfolding computed
prefix_26 = tt

pub prefix_27 : T (refuses (take 27 empty) 1)
unfolding computed
prefix_27 = tt

pub prefix_28 : T (refuses (take 28 empty) 1)
unfolding computed
prefix_28 = tt

pub prefix_29 : T (refuses (take 29 empty) 1)
unfolding computed
prefix_29 = tt

pub prefix_30 : T (refuses (take 30 empty) 1)
unfolding computed
prefix_30 = tt

pub prefix_31 : T (refuses (take 31 empty) 1)
unfolding computed
prefix_31 = tt

pub prefix_32 : T (refuses (take 32 empty) 1)
unfolding computed
prefix_32 = tt

pub prefix_33 : T (refuses (take 33 empty) 1)
unfolding computed
prefix_33 = tt

pub prefix_34 : T (refuses (take 34 empty) 1)
unfolding computed
prefix_34 = tt

pub prefix_35 : T (refuses (take 35 empty) 1)
unfolding computed
prefix_35 = tt

pub prefix_36 : T (refuses (take 36 empty) 1)
unfolding computed
prefix_36 = tt

pub prefix_37 : T (refuses (take 37 empty) 1)
unfolding computed
prefix_37 = tt

pub prefix_38 : T (refuses (take 38 empty) 1)
unfolding computed
prefix_38 = tt

pub prefix_39 : T (refuses (take 39 empty) 1)
unfolding computed
prefix_39 = tt

pub prefix_40 : T (refuses (take 40 empty) 1)
unfolding computed
prefix_40 = tt

pub prefix_41 : T (refuses (take 41 empty) 1)
unfolding computed
prefix_41 = tt

pub prefix_42 : T (refuses (take 42 empty) 1)
unfolding computed
prefix_42 = tt

pub prefix_43 : T (refuses (take 43 empty) 1)
unfolding computed
prefix_43 = tt

pub prefix_44 : T (refuses (take 44 empty) 1)
unfolding computed
prefix_44 = tt

pub prefix_45 : T (refuses (take 45 empty) 1)
unfolding computed
prefix_45 = tt

pub prefix_46 : T (refuses (take 46 empty) 1)
unfolding computed
prefix_46 = tt

pub prefix_47 : T (refuses (take 47 empty) 1)
unfolding computed
prefix_47 = tt

pub prefix_48 : T (refuses (take 48 empty) 1)
unfolding computed
prefix_48 = tt

pub prefix_49 : T (refuses (take 49 empty) 1)
unfolding computed
prefix_49 = tt

pub prefix_50 : T (refuses (take 50 empty) 1)
unfolding computed
prefix_50 = tt

pub prefix_51 : T (refuses (take 51 empty) 1)
unfolding computed
prefix_51 = tt

pub prefix_52 : T (refuses (take 52 empty) 1)
unfolding computed
prefix_52 = tt

pub prefix_53 : T (refuses (take 53 empty) 1)
unfolding computed
prefix_53 = tt

pub prefix_54 : T (exports (take 54 empty) empty && figures (take 54 empty) (0 ∷ 0 ∷ 0 ∷ 0 ∷ 0 ∷ 0 ∷ 0 ∷ 0 ∷ 0 ∷ []))
unfolding computed
prefix_54 = tt

pub prefix_55 : T (refuses (take 55 empty) 1)
unfolding computed
prefix_55 = tt

pub prefix_56 : T (refuses (take 56 empty) 1)
unfolding computed
prefix_56 = tt

pub prefix_57 : T (refuses (take 57 empty) 1)
unfolding computed
prefix_57 = tt

pub prefix_58 : T (exports (take 58 empty) empty && figures (take 58 empty) (0 ∷ 0 ∷ 0 ∷ 0 ∷ 0 ∷ 0 ∷ 0 ∷ 0 ∷ 0 ∷ []))
unfolding computed
prefix_58 = tt

pub prefix_59 : T (refuses (take 59 empty) 1)
unfolding computed
prefix_59 = tt

pub prefix_60 : T (refuses (take 60 empty) 1)
unfolding computed
prefix_60 = tt

pub prefix_61 : T (refuses (take 61 empty) 1)
unfolding computed
prefix_61 = tt

pub prefix_62 : T (exports (take 62 empty) empty && figures (take 62 empty) (0 ∷ 0 ∷ 0 ∷ 0 ∷ 0 ∷ 0 ∷ 0 ∷ 0 ∷ 0 ∷ []))
unfolding computed
prefix_62 = tt

pub prefix_63 : T (refuses (take 63 empty) 1)
unfolding computed
prefix_63 = tt

pub prefix_64 : T (refuses (take 64 empty) 1)
unfolding computed
prefix_64 = tt

pub prefix_65 : T (refuses (take 65 empty) 1)
unfolding computed
prefix_65 = tt

pub prefix_66 : T (exports (take 66 empty) empty && figures (take 66 empty) (0 ∷ 0 ∷ 0 ∷ 0 ∷ 0 ∷ 0 ∷ 0 ∷ 0 ∷ 0 ∷ []))
unfolding computed
prefix_66 = tt

pub prefix_67 : T (refuses (take 67 empty) 1)
unfolding computed
prefix_67 = tt

pub prefix_68 : T (refuses (take 68 empty) 1)
unfolding computed
prefix_68 = tt

pub prefix_69 : T (refuses (take 69 empty) 1)
unfolding computed
prefix_69 = tt

pub prefix_70 : T (exports (take 70 empty) empty && figures (take 70 empty) (0 ∷ 0 ∷ 0 ∷ 0 ∷ 0 ∷ 0 ∷ 0 ∷ 0 ∷ 0 ∷ []))
unfolding computed
prefix_70 = tt

pub prefix_71 : T (refuses (take 71 empty) 1)
unfolding computed
prefix_71 = tt

pub prefix_72 : T (refuses (take 72 empty) 1)
unfolding computed
prefix_72 = tt

pub prefix_73 : T (refuses (take 73 empty) 1)
unfolding computed
prefix_73 = tt

pub prefix_74 : T (exports empty empty && figures empty (0 ∷ 0 ∷ 0 ∷ 0 ∷ 0 ∷ 0 ∷ 0 ∷ 0 ∷ 0 ∷ []))
unfolding computed
prefix_74 = tt

pub header_0 : T (refuses ((119 ∷ []) ++ drop 1 empty) 2)
unfolding computed
header_0 = tt

pub short_header_0 : T (refuses ((119 ∷ 111 ∷ 99 ∷ 97 ∷ 108 ∷ 111 ∷ 105 ∷ 100 ∷ 32 ∷ 77 ∷ 111 ∷ 116 ∷ 105 ∷ 111 ∷ 110 ∷ 32 ∷ 68 ∷ 97 ∷ 116 ∷ 97 ∷ 32 ∷ 48 ∷ 48 ∷ 48 ∷ 50 ∷ []) ++ replicate 5 0) 2)
unfolding computed
short_header_0 = tt

pub header_1 : T (refuses ((86 ∷ 78 ∷ []) ++ drop 2 empty) 2)
unfolding computed
header_1 = tt

pub header_2 : T (refuses ((86 ∷ 111 ∷ 66 ∷ []) ++ drop 3 empty) 2)
unfolding computed
header_2 = tt

pub header_3 : T (refuses ((86 ∷ 111 ∷ 99 ∷ 64 ∷ []) ++ drop 4 empty) 2)
unfolding computed
header_3 = tt

pub header_4 : T (refuses ((86 ∷ 111 ∷ 99 ∷ 97 ∷ 77 ∷ []) ++ drop 5 empty) 2)
unfolding computed
header_4 = tt

pub header_5 : T (refuses ((86 ∷ 111 ∷ 99 ∷ 97 ∷ 108 ∷ 78 ∷ []) ++ drop 6 empty) 2)
unfolding computed
header_5 = tt

pub short_header_5 : T (refuses ((86 ∷ 111 ∷ 99 ∷ 97 ∷ 108 ∷ 78 ∷ 105 ∷ 100 ∷ 32 ∷ 77 ∷ 111 ∷ 116 ∷ 105 ∷ 111 ∷ 110 ∷ 32 ∷ 68 ∷ 97 ∷ 116 ∷ 97 ∷ 32 ∷ 48 ∷ 48 ∷ 48 ∷ 50 ∷ []) ++ drop 64 empty) 2)
unfolding computed
short_header_5 = tt

pub header_6 : T (refuses ((86 ∷ 111 ∷ 99 ∷ 97 ∷ 108 ∷ 111 ∷ 72 ∷ []) ++ drop 7 empty) 2)
unfolding computed
header_6 = tt

pub header_7 : T (refuses ((86 ∷ 111 ∷ 99 ∷ 97 ∷ 108 ∷ 111 ∷ 105 ∷ 69 ∷ []) ++ drop 8 empty) 2)
unfolding computed
header_7 = tt

pub header_8 : T (refuses (take 8 empty ++ (1 ∷ []) ++ drop 9 empty) 2)
unfolding computed
header_8 = tt

pub header_9 : T (refuses (take 9 empty ++ (108 ∷ []) ++ drop 10 empty) 2)
unfolding computed
header_9 = tt

pub header_10 : T (refuses (take 10 empty ++ (78 ∷ []) ++ drop 11 empty) 2)
unfolding computed
header_10 = tt

pub short_header_10 : T (refuses (take 10 empty ++ (78 ∷ 116 ∷ 105 ∷ 111 ∷ 110 ∷ 32 ∷ 68 ∷ 97 ∷ 116 ∷ 97 ∷ 32 ∷ 48 ∷ 48 ∷ 48 ∷ 50 ∷ []) ++ drop 59 empty) 2)
unfolding computed
short_header_10 = tt

pub header_11 : T (refuses (take 11 empty ++ (85 ∷ []) ++ drop 12 empty) 2)
unfolding computed
header_11 = tt

pub header_12 : T (refuses (take 12 empty ++ (72 ∷ []) ++ drop 13 empty) 2)
unfolding computed
header_12 = tt

pub header_13 : T (refuses (take 13 empty ++ (78 ∷ []) ++ drop 14 empty) 2)
unfolding computed
header_13 = tt

pub header_14 : T (refuses (take 14 empty ++ (79 ∷ []) ++ drop 15 empty) 2)
unfolding computed
header_14 = tt

pub header_15 : T (refuses (take 15 empty ++ (1 ∷ []) ++ drop 16 empty) 2)
unfolding computed
header_15 = tt

pub short_header_15 : T (refuses (take 15 empty ++ (1 ∷ 68 ∷ 97 ∷ 116 ∷ 97 ∷ 32 ∷ 48 ∷ 48 ∷ 48 ∷ 50 ∷ []) ++ drop 54 empty) 2)
unfolding computed
short_header_15 = tt

pub header_16 : T (refuses (take 16 empty ++ (101 ∷ []) ++ drop 17 empty) 2)
unfolding computed
header_16 = tt

pub header_17 : T (refuses (take 17 empty ++ (64 ∷ []) ++ drop 18 empty) 2)
unfolding computed
header_17 = tt

pub header_18 : T (refuses (take 18 empty ++ (85 ∷ []) ++ drop 19 empty) 2)
unfolding computed
header_18 = tt

pub header_19 : T (refuses (take 19 empty ++ (64 ∷ []) ++ drop 20 empty) 2)
unfolding computed
header_19 = tt

pub header_20 : T (refuses (take 20 empty ++ (1 ∷ []) ++ drop 21 empty) 2)
unfolding computed
header_20 = tt

pub short_header_20 : T (refuses (take 20 six ++ (1 ∷ 48 ∷ 48 ∷ 48 ∷ 50 ∷ []) ++ replicate 5 0) 2)
unfolding computed
short_header_20 = tt

pub header_21 : T (refuses (take 21 empty ++ (17 ∷ []) ++ drop 22 empty) 2)
unfolding computed
header_21 = tt

pub header_22 : T (refuses (take 22 empty ++ (17 ∷ []) ++ drop 23 empty) 2)
unfolding computed
header_22 = tt

pub header_23 : T (refuses (take 23 empty ++ (17 ∷ []) ++ drop 24 empty) 2)
unfolding computed
header_23 = tt

pub header_24 : T (refuses (take 24 empty ++ (19 ∷ []) ++ drop 25 empty) 2)
unfolding computed
header_24 = tt

pub header_25 : T (refuses (take 25 empty ++ (33 ∷ []) ++ drop 26 empty) 2)
unfolding computed
header_25 = tt

pub short_header_25 : T (refuses (take 25 magic ++ (33 ∷ []) ++ replicate 9 0) 2)
unfolding computed
short_header_25 = tt

pub header_26 : T (exports (magic ++ (33 ∷ []) ++ replicate 47 0) empty && figures (magic ++ (33 ∷ []) ++ replicate 47 0) (0 ∷ 0 ∷ 0 ∷ 0 ∷ 0 ∷ 0 ∷ 0 ∷ 0 ∷ 0 ∷ []))
unfolding computed
header_26 = tt

pub header_27 : T (exports (magic ++ (0 ∷ 33 ∷ []) ++ replicate 46 0) empty && figures (magic ++ (0 ∷ 33 ∷ []) ++ replicate 46 0) (0 ∷ 0 ∷ 0 ∷ 0 ∷ 0 ∷ 0 ∷ 0 ∷ 0 ∷ 0 ∷ []))
unfolding computed
header_27 = tt

pub header_28 : T (exports (take 28 empty ++ (33 ∷ []) ++ drop 29 empty) empty && figures (take 28 empty ++ (33 ∷ []) ++ drop 29 empty) (0 ∷ 0 ∷ 0 ∷ 0 ∷ 0 ∷ 0 ∷ 0 ∷ 0 ∷ 0 ∷ []))
unfolding computed
header_28 = tt

pub header_29 : T (exports (take 29 empty ++ (33 ∷ []) ++ drop 30 empty) empty && figures (take 29 empty ++ (33 ∷ []) ++ drop 30 empty) (0 ∷ 0 ∷ 0 ∷ 0 ∷ 0 ∷ 0 ∷ 0 ∷ 0 ∷ 0 ∷ []))
unfolding computed
header_29 = tt

pub header_30 : T (exports (take 30 empty ++ (33 ∷ []) ++ drop 31 empty) (take 30 empty ++ (33 ∷ []) ++ drop 31 empty) && figures (take 30 empty ++ (33 ∷ []) ++ drop 31 empty) (0 ∷ 0 ∷ 0 ∷ 0 ∷ 0 ∷ 0 ∷ 0 ∷ 0 ∷ 0 ∷ []))
unfolding computed
header_30 = tt

pub short_header_30 : T (refuses (take 30 empty ++ (33 ∷ []) ++ drop 65 empty) 1)
unfolding computed
short_header_30 = tt

pub header_31 : T (exports (take 31 empty ++ (33 ∷ []) ++ drop 32 empty) empty && figures (take 31 empty ++ (33 ∷ []) ++ drop 32 empty) (0 ∷ 0 ∷ 0 ∷ 0 ∷ 0 ∷ 0 ∷ 0 ∷ 0 ∷ 0 ∷ []))
unfolding computed
header_31 = tt

pub header_32 : T (exports (take 32 empty ++ (33 ∷ []) ++ drop 33 empty) empty && figures (take 32 empty ++ (33 ∷ []) ++ drop 33 empty) (0 ∷ 0 ∷ 0 ∷ 0 ∷ 0 ∷ 0 ∷ 0 ∷ 0 ∷ 0 ∷ []))
unfolding computed
header_32 = tt

pub header_33 : T (exports (take 33 empty ++ (33 ∷ []) ++ drop 34 empty) empty && figures (take 33 empty ++ (33 ∷ []) ++ drop 34 empty) (0 ∷ 0 ∷ 0 ∷ 0 ∷ 0 ∷ 0 ∷ 0 ∷ 0 ∷ 0 ∷ []))
unfolding computed
header_33 = tt

pub header_34 : T (exports (take 34 empty ++ (33 ∷ []) ++ drop 35 empty) empty && figures (take 34 empty ++ (33 ∷ []) ++ drop 35 empty) (0 ∷ 0 ∷ 0 ∷ 0 ∷ 0 ∷ 0 ∷ 0 ∷ 0 ∷ 0 ∷ []))
unfolding computed
header_34 = tt

pub header_35 : T (exports (take 35 empty ++ (33 ∷ []) ++ drop 36 empty) empty && figures (take 35 empty ++ (33 ∷ []) ++ drop 36 empty) (0 ∷ 0 ∷ 0 ∷ 0 ∷ 0 ∷ 0 ∷ 0 ∷ 0 ∷ 0 ∷ []))
unfolding computed
header_35 = tt

pub header_36 : T (exports (take 36 empty ++ (33 ∷ []) ++ drop 37 empty) empty && figures (take 36 empty ++ (33 ∷ []) ++ drop 37 empty) (0 ∷ 0 ∷ 0 ∷ 0 ∷ 0 ∷ 0 ∷ 0 ∷ 0 ∷ 0 ∷ []))
unfolding computed
header_36 = tt

pub header_37 : T (exports (take 37 empty ++ (33 ∷ []) ++ drop 38 empty) empty && figures (take 37 empty ++ (33 ∷ []) ++ drop 38 empty) (0 ∷ 0 ∷ 0 ∷ 0 ∷ 0 ∷ 0 ∷ 0 ∷ 0 ∷ 0 ∷ []))
unfolding computed
header_37 = tt

pub header_38 : T (exports (take 38 empty ++ (33 ∷ []) ++ drop 39 empty) empty && figures (take 38 empty ++ (33 ∷ []) ++ drop 39 empty) (0 ∷ 0 ∷ 0 ∷ 0 ∷ 0 ∷ 0 ∷ 0 ∷ 0 ∷ 0 ∷ []))
unfolding computed
header_38 = tt

pub header_39 : T (exports (take 39 empty ++ (33 ∷ []) ++ drop 40 empty) empty && figures (take 39 empty ++ (33 ∷ []) ++ drop 40 empty) (0 ∷ 0 ∷ 0 ∷ 0 ∷ 0 ∷ 0 ∷ 0 ∷ 0 ∷ 0 ∷ []))
unfolding computed
header_39 = tt

pub header_40 : T (exports (take 40 empty ++ (33 ∷ []) ++ drop 41 empty) empty && figures (take 40 empty ++ (33 ∷ []) ++ drop 41 empty) (0 ∷ 0 ∷ 0 ∷ 0 ∷ 0 ∷ 0 ∷ 0 ∷ 0 ∷ 0 ∷ []))
unfolding computed
header_40 = tt

pub header_41 : T (exports (take 41 empty ++ (33 ∷ []) ++ drop 42 empty) empty && figures (take 41 empty ++ (33 ∷ []) ++ drop 42 empty) (0 ∷ 0 ∷ 0 ∷ 0 ∷ 0 ∷ 0 ∷ 0 ∷ 0 ∷ 0 ∷ []))
unfolding computed
header_41 = tt

pub header_42 : T (exports (take 42 empty ++ (33 ∷ []) ++ drop 43 empty) empty && figures (take 42 empty ++ (33 ∷ []) ++ drop 43 empty) (0 ∷ 0 ∷ 0 ∷ 0 ∷ 0 ∷ 0 ∷ 0 ∷ 0 ∷ 0 ∷ []))
unfolding computed
header_42 = tt

pub header_43 : T (exports (take 43 empty ++ (33 ∷ []) ++ drop 44 empty) empty && figures (take 43 empty ++ (33 ∷ []) ++ drop 44 empty) (0 ∷ 0 ∷ 0 ∷ 0 ∷ 0 ∷ 0 ∷ 0 ∷ 0 ∷ 0 ∷ []))
unfolding computed
header_43 = tt

pub header_44 : T (exports (take 44 empty ++ (33 ∷ []) ++ drop 45 empty) empty && figures (take 44 empty ++ (33 ∷ []) ++ drop 45 empty) (0 ∷ 0 ∷ 0 ∷ 0 ∷ 0 ∷ 0 ∷ 0 ∷ 0 ∷ 0 ∷ []))
unfolding computed
header_44 = tt

pub header_45 : T (exports (take 45 empty ++ (33 ∷ []) ++ drop 46 empty) empty && figures (take 45 empty ++ (33 ∷ []) ++ drop 46 empty) (0 ∷ 0 ∷ 0 ∷ 0 ∷ 0 ∷ 0 ∷ 0 ∷ 0 ∷ 0 ∷ []))
unfolding computed
header_45 = tt

pub header_46 : T (exports (take 46 empty ++ (33 ∷ []) ++ drop 47 empty) empty && figures (take 46 empty ++ (33 ∷ []) ++ drop 47 empty) (0 ∷ 0 ∷ 0 ∷ 0 ∷ 0 ∷ 0 ∷ 0 ∷ 0 ∷ 0 ∷ []))
unfolding computed
header_46 = tt

pub header_47 : T (exports (take 47 empty ++ (33 ∷ []) ++ drop 48 empty) empty && figures (take 47 empty ++ (33 ∷ []) ++ drop 48 empty) (0 ∷ 0 ∷ 0 ∷ 0 ∷ 0 ∷ 0 ∷ 0 ∷ 0 ∷ 0 ∷ []))
unfolding computed
header_47 = tt

pub header_48 : T (exports (take 48 empty ++ (33 ∷ []) ++ drop 49 empty) empty && figures (take 48 empty ++ (33 ∷ []) ++ drop 49 empty) (0 ∷ 0 ∷ 0 ∷ 0 ∷ 0 ∷ 0 ∷ 0 ∷ 0 ∷ 0 ∷ []))
unfolding computed
header_48 = tt

pub header_49 : T (exports (take 49 empty ++ (33 ∷ []) ++ drop 50 empty) empty && figures (take 49 empty ++ (33 ∷ []) ++ drop 50 empty) (0 ∷ 0 ∷ 0 ∷ 0 ∷ 0 ∷ 0 ∷ 0 ∷ 0 ∷ 0 ∷ []))
unfolding computed
header_49 = tt
