-- A take of six sections cut at and beside every boundary, and with bytes after its end.
-- Written by oracle/samples.sh from the original's answers, not by hand.
use Rattle.std.specs.Prelude.{◌&&◌, [], ◌∷◌, ◌++◌, take, drop, replicate, T}
use Rattle.vmd_format.specs.Computed.{computed}
use Rattle.vmd_answers.specs.Said.{refuses, exports, figures, magic, six, six_out}

pub cut_25 : T (refuses (take 25 six) 1)
unfolding computed
cut_25 = tt

pub cut_26 : T (refuses magic 1)
unfolding computed
cut_26 = tt

pub cut_27 : T (refuses (take 27 six) 1)
unfolding computed
cut_27 = tt

pub cut_29 : T (refuses (take 29 six) 1)
unfolding computed
cut_29 = tt

pub cut_30 : T (refuses (take 30 six) 1)
unfolding computed
cut_30 = tt

pub cut_31 : T (refuses (take 31 six) 1)
unfolding computed
cut_31 = tt

pub cut_49 : T (refuses (take 49 six) 1)
unfolding computed
cut_49 = tt

pub cut_50 : T (refuses (take 50 six) 1)
unfolding computed
cut_50 = tt

pub cut_51 : T (refuses (take 51 six) 1)
unfolding computed
cut_51 = tt

pub cut_53 : T (refuses (take 53 six) 1)
unfolding computed
cut_53 = tt

pub cut_54 : T (refuses (take 54 six) 1)
unfolding computed
cut_54 = tt

pub cut_55 : T (refuses (take 55 six) 1)
unfolding computed
cut_55 = tt

pub cut_164 : T (refuses (take 164 six) 1)
unfolding computed
cut_164 = tt

pub cut_165 : T (exports (take 165 six) (take 165 six_out ++ replicate 12 0 ++ drop 358 six_out) && figures (take 165 six) (1 ∷ 0 ∷ 0 ∷ 0 ∷ 0 ∷ 0 ∷ 0 ∷ 7 ∷ 7 ∷ []))
unfolding computed
cut_165 = tt

pub cut_166 : T (refuses (take 166 six) 1)
unfolding computed
cut_166 = tt

pub cut_168 : T (refuses (take 168 six) 1)
unfolding computed
cut_168 = tt

pub cut_169 : T (refuses (take 169 six) 1)
unfolding computed
cut_169 = tt

pub cut_170 : T (refuses (take 170 six) 1)
unfolding computed
cut_170 = tt

pub cut_191 : T (refuses (take 191 six) 1)
unfolding computed
cut_191 = tt

pub cut_192 : T (exports (take 192 six) (take 192 six_out ++ replicate 8 0 ++ drop 358 six_out) && figures (take 192 six) (1 ∷ 1 ∷ 0 ∷ 0 ∷ 0 ∷ 0 ∷ 0 ∷ 7 ∷ 9 ∷ []))
unfolding computed
cut_192 = tt

pub cut_193 : T (refuses (take 193 six) 1)
unfolding computed
cut_193 = tt

pub cut_195 : T (refuses (take 195 six) 1)
unfolding computed
cut_195 = tt

pub cut_196 : T (exports (take 196 six) (take 192 six_out ++ replicate 8 0 ++ drop 358 six_out) && figures (take 196 six) (1 ∷ 1 ∷ 0 ∷ 0 ∷ 0 ∷ 0 ∷ 0 ∷ 7 ∷ 9 ∷ []))
unfolding computed
cut_196 = tt

pub cut_197 : T (exports (take 197 six) (take 192 six_out ++ replicate 8 0 ++ drop 358 six_out) && figures (take 197 six) (1 ∷ 1 ∷ 0 ∷ 0 ∷ 0 ∷ 0 ∷ 0 ∷ 7 ∷ 9 ∷ []))
unfolding computed
cut_197 = tt

pub cut_256 : T (exports (take 256 six) (take 192 six_out ++ replicate 8 0 ++ drop 358 six_out) && figures (take 256 six) (1 ∷ 1 ∷ 0 ∷ 0 ∷ 0 ∷ 0 ∷ 0 ∷ 7 ∷ 9 ∷ []))
unfolding computed
cut_256 = tt

pub cut_257 : T (exports (take 257 six) (take 257 six_out ++ replicate 4 0 ++ drop 358 six_out) && figures (take 257 six) (1 ∷ 1 ∷ 1 ∷ 0 ∷ 0 ∷ 0 ∷ 0 ∷ 5 ∷ 9 ∷ []))
unfolding computed
cut_257 = tt

pub cut_258 : T (refuses (take 258 six) 1)
unfolding computed
cut_258 = tt

pub cut_260 : T (refuses (take 260 six) 1)
unfolding computed
cut_260 = tt

pub cut_261 : T (exports (take 261 six) (take 257 six_out ++ replicate 4 0 ++ drop 358 six_out) && figures (take 261 six) (1 ∷ 1 ∷ 1 ∷ 0 ∷ 0 ∷ 0 ∷ 0 ∷ 5 ∷ 9 ∷ []))
unfolding computed
cut_261 = tt

pub cut_262 : T (exports (take 262 six) (take 257 six_out ++ replicate 4 0 ++ drop 358 six_out) && figures (take 262 six) (1 ∷ 1 ∷ 1 ∷ 0 ∷ 0 ∷ 0 ∷ 0 ∷ 5 ∷ 9 ∷ []))
unfolding computed
cut_262 = tt

pub cut_288 : T (exports (take 288 six) (take 257 six_out ++ replicate 4 0 ++ drop 358 six_out) && figures (take 288 six) (1 ∷ 1 ∷ 1 ∷ 0 ∷ 0 ∷ 0 ∷ 0 ∷ 5 ∷ 9 ∷ []))
unfolding computed
cut_288 = tt

pub cut_289 : T (exports (take 289 six) (take 289 six_out ++ drop 358 six_out) && figures (take 289 six) (1 ∷ 1 ∷ 1 ∷ 1 ∷ 0 ∷ 0 ∷ 0 ∷ 4 ∷ 9 ∷ []))
unfolding computed
cut_289 = tt

pub cut_290 : T (refuses (take 290 six) 1)
unfolding computed
cut_290 = tt

pub cut_292 : T (refuses (take 292 six) 1)
unfolding computed
cut_292 = tt

pub cut_293 : T (exports (take 293 six) (take 289 six_out ++ drop 358 six_out) && figures (take 293 six) (1 ∷ 1 ∷ 1 ∷ 1 ∷ 0 ∷ 0 ∷ 0 ∷ 4 ∷ 9 ∷ []))
unfolding computed
cut_293 = tt

pub cut_294 : T (exports (take 294 six) (take 289 six_out ++ drop 358 six_out) && figures (take 294 six) (1 ∷ 1 ∷ 1 ∷ 1 ∷ 0 ∷ 0 ∷ 0 ∷ 4 ∷ 9 ∷ []))
unfolding computed
cut_294 = tt

pub cut_301 : T (exports (take 301 six) (take 289 six_out ++ drop 358 six_out) && figures (take 301 six) (1 ∷ 1 ∷ 1 ∷ 1 ∷ 0 ∷ 0 ∷ 0 ∷ 4 ∷ 9 ∷ []))
unfolding computed
cut_301 = tt

pub cut_302 : T (exports (take 302 six) (take 302 six_out ++ replicate 4 0) && figures (take 302 six) (1 ∷ 1 ∷ 1 ∷ 1 ∷ 1 ∷ 0 ∷ 0 ∷ 3 ∷ 9 ∷ []))
unfolding computed
cut_302 = tt

pub cut_303 : T (refuses (take 303 six) 1)
unfolding computed
cut_303 = tt

pub cut_305 : T (refuses (take 305 six) 1)
unfolding computed
cut_305 = tt

pub cut_306 : T (refuses (take 306 six) 1)
unfolding computed
cut_306 = tt

pub cut_307 : T (refuses (take 307 six) 1)
unfolding computed
cut_307 = tt

pub cut_309 : T (refuses (take 309 six) 1)
unfolding computed
cut_309 = tt

pub cut_310 : T (refuses (take 310 six) 1)
unfolding computed
cut_310 = tt

pub cut_311 : T (refuses (take 311 six) 1)
unfolding computed
cut_311 = tt

pub cut_312 : T (refuses (take 312 six) 1)
unfolding computed
cut_312 = tt

pub cut_314 : T (refuses (take 314 six) 1)
unfolding computed
cut_314 = tt

pub cut_315 : T (refuses (take 315 six) 1)
unfolding computed
cut_315 = tt

pub cut_316 : T (refuses (take 316 six) 1)
unfolding computed
cut_316 = tt

pub cut_335 : T (refuses (take 335 six) 1)
unfolding computed
cut_335 = tt

pub cut_336 : T (refuses (take 336 six) 1)
unfolding computed
cut_336 = tt

pub cut_337 : T (refuses (take 337 six) 1)
unfolding computed
cut_337 = tt

pub cut_356 : T (refuses (take 356 six) 1)
unfolding computed
cut_356 = tt

pub cut_357 : T (refuses (take 357 six) 1)
unfolding computed
cut_357 = tt

pub cut_358 : T (refuses (take 358 six) 1)
unfolding computed
cut_358 = tt

pub cut_360 : T (refuses (take 360 six) 1)
unfolding computed
cut_360 = tt

pub cut_361 : T (refuses (take 361 six) 1)
unfolding computed
cut_361 = tt

pub cut_362 : T (refuses (take 362 six) 1)
unfolding computed
cut_362 = tt

pub cut_363 : T (refuses (take 363 six) 1)
unfolding computed
cut_363 = tt

pub cut_365 : T (refuses (take 365 six) 1)
unfolding computed
cut_365 = tt

pub cut_366 : T (exports six six_out && figures six (1 ∷ 1 ∷ 1 ∷ 1 ∷ 1 ∷ 2 ∷ 2 ∷ 3 ∷ 70000 ∷ []))
unfolding computed
cut_366 = tt

pub over_1 : T (exports (six ++ (1 ∷ [])) six_out && figures (six ++ (1 ∷ [])) (1 ∷ 1 ∷ 1 ∷ 1 ∷ 1 ∷ 2 ∷ 2 ∷ 3 ∷ 70000 ∷ []))
unfolding computed
over_1 = tt

pub over_2 : T (exports (six ++ (1 ∷ 2 ∷ [])) six_out && figures (six ++ (1 ∷ 2 ∷ [])) (1 ∷ 1 ∷ 1 ∷ 1 ∷ 1 ∷ 2 ∷ 2 ∷ 3 ∷ 70000 ∷ []))
unfolding computed
over_2 = tt

pub over_3 : T (exports (six ++ (1 ∷ 2 ∷ 3 ∷ [])) six_out && figures (six ++ (1 ∷ 2 ∷ 3 ∷ [])) (1 ∷ 1 ∷ 1 ∷ 1 ∷ 1 ∷ 2 ∷ 2 ∷ 3 ∷ 70000 ∷ []))
unfolding computed
over_3 = tt

pub over_4 : T (exports (six ++ (1 ∷ 2 ∷ 3 ∷ 4 ∷ [])) six_out && figures (six ++ (1 ∷ 2 ∷ 3 ∷ 4 ∷ [])) (1 ∷ 1 ∷ 1 ∷ 1 ∷ 1 ∷ 2 ∷ 2 ∷ 3 ∷ 70000 ∷ []))
unfolding computed
over_4 = tt

pub over_5 : T (exports (six ++ (1 ∷ 2 ∷ 3 ∷ 4 ∷ 5 ∷ [])) six_out && figures (six ++ (1 ∷ 2 ∷ 3 ∷ 4 ∷ 5 ∷ [])) (1 ∷ 1 ∷ 1 ∷ 1 ∷ 1 ∷ 2 ∷ 2 ∷ 3 ∷ 70000 ∷ []))
unfolding computed
over_5 = tt
