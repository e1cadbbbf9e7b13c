-- Every flag of a take of six sections, and its self-shadow's mode, at 0, 1, 2, 128 and 255.
-- Written by oracle/samples.sh from the original's answers, not by hand.
use Rattle.std.specs.Prelude.{◌&&◌, [], ◌∷◌, ◌++◌, take, drop, replicate, T}
use Rattle.vmd_format.specs.Computed.{computed}
use Rattle.vmd_answers.specs.Said.{exports, figures, six, six_out}

pub perspective_is_0 : T (exports (take 256 six ++ (0 ∷ []) ++ drop 257 six) (take 256 six_out ++ (0 ∷ []) ++ drop 257 six_out) && figures (take 256 six ++ (0 ∷ []) ++ drop 257 six) (1 ∷ 1 ∷ 1 ∷ 1 ∷ 1 ∷ 2 ∷ 2 ∷ 3 ∷ 70000 ∷ []))
unfolding computed
perspective_is_0 = tt

pub perspective_is_1 : T (exports (take 256 six ++ (1 ∷ []) ++ drop 257 six) six_out && figures (take 256 six ++ (1 ∷ []) ++ drop 257 six) (1 ∷ 1 ∷ 1 ∷ 1 ∷ 1 ∷ 2 ∷ 2 ∷ 3 ∷ 70000 ∷ []))
unfolding computed
perspective_is_1 = tt

pub perspective_is_2 : T (exports six six_out && figures six (1 ∷ 1 ∷ 1 ∷ 1 ∷ 1 ∷ 2 ∷ 2 ∷ 3 ∷ 70000 ∷ []))
unfolding computed
perspective_is_2 = tt

pub perspective_is_128 : T (exports (take 256 six ++ (128 ∷ []) ++ drop 257 six) six_out && figures (take 256 six ++ (128 ∷ []) ++ drop 257 six) (1 ∷ 1 ∷ 1 ∷ 1 ∷ 1 ∷ 2 ∷ 2 ∷ 3 ∷ 70000 ∷ []))
unfolding computed
perspective_is_128 = tt

pub perspective_is_255 : T (exports (take 256 six ++ (255 ∷ []) ++ drop 257 six) six_out && figures (take 256 six ++ (255 ∷ []) ++ drop 257 six) (1 ∷ 1 ∷ 1 ∷ 1 ∷ 1 ∷ 2 ∷ 2 ∷ 3 ∷ 70000 ∷ []))
unfolding computed
perspective_is_255 = tt

pub visible_0_is_0 : T (exports (take 310 six ++ (0 ∷ []) ++ drop 311 six) (take 310 six_out ++ (0 ∷ []) ++ drop 311 six_out) && figures (take 310 six ++ (0 ∷ []) ++ drop 311 six) (1 ∷ 1 ∷ 1 ∷ 1 ∷ 1 ∷ 2 ∷ 2 ∷ 3 ∷ 70000 ∷ []))
unfolding computed
visible_0_is_0 = tt

pub visible_0_is_1 : T (exports (take 310 six ++ (1 ∷ []) ++ drop 311 six) six_out && figures (take 310 six ++ (1 ∷ []) ++ drop 311 six) (1 ∷ 1 ∷ 1 ∷ 1 ∷ 1 ∷ 2 ∷ 2 ∷ 3 ∷ 70000 ∷ []))
unfolding computed
visible_0_is_1 = tt

pub visible_0_is_2 : T (exports (take 310 six ++ (2 ∷ []) ++ drop 311 six) six_out && figures (take 310 six ++ (2 ∷ []) ++ drop 311 six) (1 ∷ 1 ∷ 1 ∷ 1 ∷ 1 ∷ 2 ∷ 2 ∷ 3 ∷ 70000 ∷ []))
unfolding computed
visible_0_is_2 = tt

pub visible_0_is_128 : T (exports (take 310 six ++ (128 ∷ []) ++ drop 311 six) six_out && figures (take 310 six ++ (128 ∷ []) ++ drop 311 six) (1 ∷ 1 ∷ 1 ∷ 1 ∷ 1 ∷ 2 ∷ 2 ∷ 3 ∷ 70000 ∷ []))
unfolding computed
visible_0_is_128 = tt

pub visible_0_is_255 : T (exports six six_out && figures six (1 ∷ 1 ∷ 1 ∷ 1 ∷ 1 ∷ 2 ∷ 2 ∷ 3 ∷ 70000 ∷ []))
unfolding computed
visible_0_is_255 = tt

pub enabled_0_is_0 : T (exports (take 335 six ++ (0 ∷ []) ++ drop 336 six) (take 335 six_out ++ (0 ∷ []) ++ drop 336 six_out) && figures (take 335 six ++ (0 ∷ []) ++ drop 336 six) (1 ∷ 1 ∷ 1 ∷ 1 ∷ 1 ∷ 2 ∷ 2 ∷ 3 ∷ 70000 ∷ []))
unfolding computed
enabled_0_is_0 = tt

pub enabled_0_is_1 : T (exports (take 335 six ++ (1 ∷ []) ++ drop 336 six) six_out && figures (take 335 six ++ (1 ∷ []) ++ drop 336 six) (1 ∷ 1 ∷ 1 ∷ 1 ∷ 1 ∷ 2 ∷ 2 ∷ 3 ∷ 70000 ∷ []))
unfolding computed
enabled_0_is_1 = tt

pub enabled_0_is_2 : T (exports (take 335 six ++ (2 ∷ []) ++ drop 336 six) six_out && figures (take 335 six ++ (2 ∷ []) ++ drop 336 six) (1 ∷ 1 ∷ 1 ∷ 1 ∷ 1 ∷ 2 ∷ 2 ∷ 3 ∷ 70000 ∷ []))
unfolding computed
enabled_0_is_2 = tt

pub enabled_0_is_128 : T (exports six six_out && figures six (1 ∷ 1 ∷ 1 ∷ 1 ∷ 1 ∷ 2 ∷ 2 ∷ 3 ∷ 70000 ∷ []))
unfolding computed
enabled_0_is_128 = tt

pub enabled_0_is_255 : T (exports (take 335 six ++ (255 ∷ []) ++ drop 336 six) six_out && figures (take 335 six ++ (255 ∷ []) ++ drop 336 six) (1 ∷ 1 ∷ 1 ∷ 1 ∷ 1 ∷ 2 ∷ 2 ∷ 3 ∷ 70000 ∷ []))
unfolding computed
enabled_0_is_255 = tt

pub enabled_1_is_0 : T (exports six six_out && figures six (1 ∷ 1 ∷ 1 ∷ 1 ∷ 1 ∷ 2 ∷ 2 ∷ 3 ∷ 70000 ∷ []))
unfolding computed
enabled_1_is_0 = tt

pub enabled_1_is_1 : T (exports (take 356 six ++ (1 ∷ []) ++ drop 357 six) (take 356 six_out ++ (1 ∷ []) ++ drop 357 six_out) && figures (take 356 six ++ (1 ∷ []) ++ drop 357 six) (1 ∷ 1 ∷ 1 ∷ 1 ∷ 1 ∷ 2 ∷ 2 ∷ 3 ∷ 70000 ∷ []))
unfolding computed
enabled_1_is_1 = tt

pub enabled_1_is_2 : T (exports (take 356 six ++ (2 ∷ []) ++ drop 357 six) (take 356 six_out ++ (1 ∷ []) ++ drop 357 six_out) && figures (take 356 six ++ (2 ∷ []) ++ drop 357 six) (1 ∷ 1 ∷ 1 ∷ 1 ∷ 1 ∷ 2 ∷ 2 ∷ 3 ∷ 70000 ∷ []))
unfolding computed
enabled_1_is_2 = tt

pub enabled_1_is_128 : T (exports (take 356 six ++ (128 ∷ []) ++ drop 357 six) (take 356 six_out ++ (1 ∷ []) ++ drop 357 six_out) && figures (take 356 six ++ (128 ∷ []) ++ drop 357 six) (1 ∷ 1 ∷ 1 ∷ 1 ∷ 1 ∷ 2 ∷ 2 ∷ 3 ∷ 70000 ∷ []))
unfolding computed
enabled_1_is_128 = tt

pub enabled_1_is_255 : T (exports (take 356 six ++ (255 ∷ []) ++ drop 357 six) (take 356 six_out ++ (1 ∷ []) ++ drop 357 six_out) && figures (take 356 six ++ (255 ∷ []) ++ drop 357 six) (1 ∷ 1 ∷ 1 ∷ 1 ∷ 1 ∷ 2 ∷ 2 ∷ 3 ∷ 70000 ∷ []))
unfolding computed
enabled_1_is_255 = tt

pub visible_1_is_0 : T (exports six six_out && figures six (1 ∷ 1 ∷ 1 ∷ 1 ∷ 1 ∷ 2 ∷ 2 ∷ 3 ∷ 70000 ∷ []))
unfolding computed
visible_1_is_0 = tt

pub visible_1_is_1 : T (exports (take 361 six ++ (1 ∷ []) ++ replicate 4 0) (take 361 six_out ++ (1 ∷ []) ++ replicate 4 0) && figures (take 361 six ++ (1 ∷ []) ++ replicate 4 0) (1 ∷ 1 ∷ 1 ∷ 1 ∷ 1 ∷ 2 ∷ 2 ∷ 3 ∷ 70000 ∷ []))
unfolding computed
visible_1_is_1 = tt

pub visible_1_is_2 : T (exports (take 361 six ++ (2 ∷ []) ++ replicate 4 0) (take 361 six_out ++ (1 ∷ []) ++ replicate 4 0) && figures (take 361 six ++ (2 ∷ []) ++ replicate 4 0) (1 ∷ 1 ∷ 1 ∷ 1 ∷ 1 ∷ 2 ∷ 2 ∷ 3 ∷ 70000 ∷ []))
unfolding computed
visible_1_is_2 = tt

pub visible_1_is_128 : T (exports (take 361 six ++ (128 ∷ []) ++ replicate 4 0) (take 361 six_out ++ (1 ∷ []) ++ replicate 4 0) && figures (take 361 six ++ (128 ∷ []) ++ replicate 4 0) (1 ∷ 1 ∷ 1 ∷ 1 ∷ 1 ∷ 2 ∷ 2 ∷ 3 ∷ 70000 ∷ []))
unfolding computed
visible_1_is_128 = tt

pub visible_1_is_255 : T (exports (take 361 six ++ (255 ∷ []) ++ replicate 4 0) (take 361 six_out ++ (1 ∷ []) ++ replicate 4 0) && figures (take 361 six ++ (255 ∷ []) ++ replicate 4 0) (1 ∷ 1 ∷ 1 ∷ 1 ∷ 1 ∷ 2 ∷ 2 ∷ 3 ∷ 70000 ∷ []))
unfolding computed
visible_1_is_255 = tt

pub mode_is_0 : T (exports (take 297 six ++ (0 ∷ []) ++ drop 298 six) (take 297 six_out ++ (0 ∷ []) ++ drop 298 six_out) && figures (take 297 six ++ (0 ∷ []) ++ drop 298 six) (1 ∷ 1 ∷ 1 ∷ 1 ∷ 1 ∷ 2 ∷ 2 ∷ 3 ∷ 70000 ∷ []))
unfolding computed
mode_is_0 = tt

pub mode_is_1 : T (exports (take 297 six ++ (1 ∷ []) ++ drop 298 six) (take 297 six_out ++ (1 ∷ []) ++ drop 298 six_out) && figures (take 297 six ++ (1 ∷ []) ++ drop 298 six) (1 ∷ 1 ∷ 1 ∷ 1 ∷ 1 ∷ 2 ∷ 2 ∷ 3 ∷ 70000 ∷ []))
unfolding computed
mode_is_1 = tt

pub mode_is_2 : T (exports (take 297 six ++ (2 ∷ []) ++ drop 298 six) (take 297 six_out ++ (2 ∷ []) ++ drop 298 six_out) && figures (take 297 six ++ (2 ∷ []) ++ drop 298 six) (1 ∷ 1 ∷ 1 ∷ 1 ∷ 1 ∷ 2 ∷ 2 ∷ 3 ∷ 70000 ∷ []))
unfolding computed
mode_is_2 = tt

pub mode_is_128 : T (exports (take 297 six ++ (128 ∷ []) ++ drop 298 six) (take 297 six_out ++ (128 ∷ []) ++ drop 298 six_out) && figures (take 297 six ++ (128 ∷ []) ++ drop 298 six) (1 ∷ 1 ∷ 1 ∷ 1 ∷ 1 ∷ 2 ∷ 2 ∷ 3 ∷ 70000 ∷ []))
unfolding computed
mode_is_128 = tt

pub mode_is_255 : T (exports (take 297 six ++ (255 ∷ []) ++ drop 298 six) (take 297 six_out ++ (255 ∷ []) ++ drop 298 six_out) && figures (take 297 six ++ (255 ∷ []) ++ drop 298 six) (1 ∷ 1 ∷ 1 ∷ 1 ∷ 1 ∷ 2 ∷ 2 ∷ 3 ∷ 70000 ∷ []))
unfolding computed
mode_is_255 = tt
