-- Which pairs of a lead and a trail have a character: request h), "its pointer, as WHATWG computes it, is in the jis0208 index or
-- lies in 8836 to 10715". Definitions only.
use Rattle.std.specs.Prelude.{ℕ, ◌+◌, ◌-◌, ◌*◌, Bool, false, ◌&&◌, ◌||◌, cond, List, [], ◌∷◌, leb, ltb}

unfoldable pub between : ℕ → ℕ → ℕ → Bool
between a b n = leb a n && leb n b

-- "its pointer, as WHATWG computes it": a lead is counted from 0x81, from 0xE0 on from 0xC1, a trail from 0x40, from 0x80 on
-- from 0x41, and a lead has 188 trails
unfoldable pub pointer : ℕ → ℕ → ℕ
pointer a b = (a - cond (ltb a 224) 129 193) * 188 + (b - cond (ltb b 128) 64 65)

-- the pointers of the jis0208 index, "a short ascending list of runs", each by its first and its last pointer
unfoldable pub runs : List (ℕ × ℕ)
runs =
    (0, 107) ∷ (119, 126) ∷ (135, 141) ∷ (153, 167) ∷ (175, 182) ∷ (187, 187) ∷ (203, 212) ∷ (220, 245) ∷ (252, 277) ∷ (282, 364)
    ∷ (376, 461) ∷ (470, 493) ∷ (502, 525) ∷ (564, 596) ∷ (612, 644) ∷ (658, 689) ∷ (1128, 1157) ∷ (1159, 1181) ∷ (1190, 1219)
    ∷ (1410, 4374) ∷ (4418, 7807) ∷ (8272, 8631) ∷ (8634, 8647) ∷ (10716, 11103) ∷ []

unfoldable pub in_runs : List (ℕ × ℕ) → ℕ → Bool
in_runs [] p = false
in_runs (r ∷ l) p = between r.0 r.1 p || in_runs l p

unfoldable pub in_index : ℕ → Bool
in_index p = in_runs runs p

-- "is in the jis0208 index or lies in 8836 to 10715"
unfoldable pub character : ℕ → Bool
character p = in_index p || between 8836 10715 p
