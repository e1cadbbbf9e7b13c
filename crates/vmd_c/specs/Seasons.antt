-- The calls for a season over a list of files: slots that one call filled say its season to the next, so that after the last
-- they hold the figures of the list. And what tidying does to a take's figures.
use Rattle.std.specs.Prelude.{ℕ, ◌≡◌, refl, List, [], ◌∷◌, map, length}
use Rattle.std.proofs.Common.{ap, sym, ◌∙◌}
use Rattle.vmd_format.specs.Read.{lenient}
use Rattle.vmd_format.specs.Take.{Take}
use Rattle.vmd_keys.specs.Names.{bone_names_of, morph_names_of, registration_name, distinct}
use Rattle.vmd_tracks.specs.Tracks.{tidy_section}
use Rattle.vmd_tracks.proofs.TrackLaws.{names_tidy}
use Rattle.vmd_tracks.proofs.RankedLaws.{map_two}
use Rattle.vmd_tracks.specs.Tidy.{tidy_by, tidy}
use Rattle.vmd_season.specs.Season.{figures_of, Season, no_takes, with_file, season_from, season, mean}
use Rattle.vmd_slots.specs.Meaning.{season_counts, season_figures, section_at, season_at, mean_words}

pub record Slots : Type 0 where
  pub counts : List ℕ
  pub figures : List ℕ

abbrev pub slots_of : Season → Slots
slots_of z = record { counts = season_counts z; figures = season_figures z }

-- what `vmd_season_add` leaves
abbrev pub slots_added : Slots → List ℕ → Slots
slots_added x s = slots_of (with_file lenient (season_at x.counts x.figures) s)

-- the files lent one after another
unfoldable pub slots_after : Slots → List (List ℕ) → Slots
slots_after x [] = x
slots_after x (s ∷ l) = slots_after (slots_added x s) l

pub own_season : (z : Season) → season_at (season_counts z) (season_figures z) ≡ z
unfolding season_counts season_figures section_at season_at
own_season z = refl

after_from : (z : Season) (l : List (List ℕ)) → slots_after (slots_of z) l ≡ slots_of (season_from lenient z l)
unfolding slots_after season_from
after_from z [] = refl
after_from z (s ∷ l) = rw (own_season z) (after_from (with_file lenient z s) l)

-- from `vmd_season_none` on, the figures of the list
pub calls_give : (l : List (List ℕ)) → slots_after (slots_of no_takes) l ≡ slots_of (season lenient l)
unfolding season
calls_give l = after_from no_takes l

-- the mean is of the figures alone
pub mean_without : (counts figures : List ℕ) → mean (season_at counts figures) ≡ mean (season_at [] figures)
unfolding season_at mean
mean_without counts figures = refl

-- the mean of slots is that of their season
pub own_mean : (z : Season) → mean_words (mean (season_at [] (season_figures z))) ≡ mean_words (mean z)
unfolding season_figures section_at season_at mean
own_mean z = refl

-- 02 k): season figures and tidying go by the same tracks, so that a tidied take has as many names as before
tidy_tracks : {A : Type 0} (nm : A → List ℕ) (frame : A → ℕ) (l : List A)
    → length (distinct (map registration_name (map nm (tidy_section (λ a. registration_name (nm a)) frame l))))
    ≡ length (distinct (map registration_name (map nm l)))
tidy_tracks nm frame l =
    ap (λ k. length (distinct k)) (map_two registration_name nm (tidy_section (λ a. registration_name (nm a)) frame l))
    ∙ ap length (names_tidy (λ a. registration_name (nm a)) frame l)
    ∙ sym (ap (λ k. length (distinct k)) (map_two registration_name nm l))

pub tidied_names : (t : Take) → ((figures_of (tidy t)).bone_names ≡ (figures_of t).bone_names) × ((figures_of (tidy t)).morph_names ≡ (figures_of t).morph_names)
unfolding figures_of bone_names_of morph_names_of tidy tidy_by
tidied_names t = (tidy_tracks (λ b. b.name) (λ b. b.frame) t.bones, tidy_tracks (λ m. m.name) (λ m. m.frame) t.morphs)
