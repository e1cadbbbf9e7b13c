-- A take: what a file says, how it is read and how it is written. Definitions only.
use Rattle.std.specs.Prelude.{ℕ, ◌+◌, Bool, true, false, ◌&&◌, List, [], ◌∷◌, ◌++◌, length, take, drop, replicate, leb, eqb}
use Rattle.vmd_format.specs.Bytes.{before_zero, padded}
use Rattle.vmd_format.specs.Refusal.{file_ends_early, magic_differs}
use Rattle.vmd_format.specs.Answer.{Answer, declined, given}
use Rattle.vmd_format.specs.Records.{Bone, Morph, Camera, Light, SelfShadow, Property, bone, morph, camera, light, self_shadow, ik_state, property_head}
use Rattle.vmd_format.specs.Read.{Step, refused, got, Reader, ◌>>=◌, Codec, fixed, whole, Section, refuse, BytesOver, ignored, turned_down, Manner, counted, optional, write_counted}

-- "Property counts are tested at 9 bytes each first; a later frame can still find the file ended, also 1."
unfoldable pub property : Codec Property
property = record {
  least = 9;
  read =
      whole property_head >>= λ h.
      counted (refuse file_ends_early) (fixed ik_state) >>= λ k.
      got (record { frame = h.0; visible = h.1; ik_states = k.items });
  write = λ p. property_head.encode (p.frame, p.visible) ++ write_counted (fixed ik_state) p.ik_states;
}

-- A take (document 01's term for a motion file): what it says, a model name and six lists of records.
pub record Take : Type 0 where
  pub model : List ℕ
  pub bones : List Bone
  pub morphs : List Morph
  pub cameras : List Camera
  pub lights : List Light
  pub self_shadows : List SelfShadow
  pub properties : List Property

-- a file as it was read: its model name, and its sections with their places
pub record File : Type 0 where
  pub model : List ℕ
  pub bones : Section Bone
  pub morphs : Section Morph
  pub cameras : Section Camera
  pub lights : Section Light
  pub self_shadows : Section SelfShadow
  pub properties : Section Property

unfoldable pub take_of : File → Take
take_of f = record {
  model = f.model;
  bones = f.bones.items;
  morphs = f.morphs.items;
  cameras = f.cameras.items;
  lights = f.lights.items;
  self_shadows = f.self_shadows.items;
  properties = f.properties.items;
}

-- "the magic `Vocaloid Motion Data 0002` and a zero byte", 26 bytes
unfoldable pub magic : List ℕ
magic = 86 ∷ 111 ∷ 99 ∷ 97 ∷ 108 ∷ 111 ∷ 105 ∷ 100 ∷ 32 ∷ 77 ∷ 111 ∷ 116 ∷ 105 ∷ 111 ∷ 110 ∷ 32 ∷ 68 ∷ 97 ∷ 116 ∷ 97 ∷ 32 ∷ 48 ∷ 48 ∷ 48 ∷ 50 ∷ 0 ∷ []

-- 02 e): "Old dances start with `Vocaloid Motion Data file` and a zero byte"
unfoldable pub older_magic : List ℕ
older_magic = 86 ∷ 111 ∷ 99 ∷ 97 ∷ 108 ∷ 111 ∷ 105 ∷ 100 ∷ 32 ∷ 77 ∷ 111 ∷ 116 ∷ 105 ∷ 111 ∷ 110 ∷ 32 ∷ 68 ∷ 97 ∷ 116 ∷ 97 ∷ 32 ∷ 102 ∷ 105 ∷ 108 ∷ 101 ∷ 0 ∷ []

-- the editions of the format, and the magic and the bytes of model name of each
pub data Edition : Type 0 where
  newer : Edition
  older : Edition

unfoldable pub magic_of : Edition → List ℕ
magic_of newer = magic
magic_of older = older_magic

abbrev pub model_width : Edition → ℕ
model_width newer = 20
model_width older = 10

unfoldable pub same : List ℕ → List ℕ → Bool
same [] [] = true
same [] (b ∷ t) = false
same (a ∷ s) [] = false
same (a ∷ s) (b ∷ t) = eqb a b && same s t

-- "The file is VMD when its first 26 bytes equal the magic; bytes 26 to 29 may be anything." So it is with the older magic.
unfoldable pub edition_if : Bool → Bool → Answer Edition
edition_if true b = given newer
edition_if false true = given older
edition_if false false = declined magic_differs

unfoldable pub edition : List ℕ → Answer Edition
edition s = edition_if (same (take 26 s) magic) (same (take 26 s) older_magic)

-- "Then 20 bytes of model name; too few is 1", and in the older edition 10. The sections begin after them.
unfoldable pub model_if : Bool → ℕ → Reader (List ℕ)
model_if true width s = got (before_zero (take width (drop 30 s))) (drop (30 + width) s)
model_if false width s = refused file_ends_early

-- "Else refusal 2, also when fewer than 50 bytes are there."
unfoldable pub magic_if : Answer Edition → Reader (List ℕ)
magic_if (given e) s = model_if (leb (30 + model_width e) (length s)) (model_width e) s
magic_if (declined k) s = refused k

unfoldable pub header_if : Bool → Reader (List ℕ)
header_if true s = magic_if (edition s) s
header_if false s = refused file_ends_early

-- "fewer than 30 bytes is refusal 1"
unfoldable pub header : Reader (List ℕ)
header s = header_if (leb 30 (length s)) s

-- the bytes after the last property frame
unfoldable pub ended : BytesOver → File → Reader File
ended ignored f s = got f s
ended (turned_down k) f [] = got f []
ended (turned_down k) f (b ∷ s) = refused k

-- "sections, in the order bones, morphs, cameras, lights, self-shadows, properties"; "The bone count is required"
unfoldable pub sections : Manner → List ℕ → Reader File
sections m name = do
  b ← counted (refuse file_ends_early) (fixed bone)
  f ← optional (counted (refuse file_ends_early) (fixed morph))
  c ← optional (counted m.oversized (fixed camera))
  l ← optional (counted m.oversized (fixed light))
  s ← optional (counted m.oversized (fixed self_shadow))
  p ← optional (counted (refuse file_ends_early) property)
  ended m.over (record { model = name; bones = b; morphs = f; cameras = c; lights = l; self_shadows = s; properties = p })

unfoldable pub read_file : Manner → Reader File
read_file m = header >>= sections m

unfoldable pub answer : Step File → Answer Take
answer (refused k) = declined k
answer (got f s) = given (take_of f)

-- the take that a file says
unfoldable pub read_take : Manner → List ℕ → Answer Take
read_take m s = answer (read_file m s)

-- "the 30-byte magic with its five zero bytes, names padded with zeros"; in the older edition "with zeros after the magic and
-- the name"
unfoldable pub write_header : Edition → List ℕ → List ℕ
write_header e m = magic_of e ++ (0 ∷ 0 ∷ 0 ∷ 0 ∷ padded (model_width e) m)

-- "all six counts", each followed by its records
unfoldable pub write_sections : Take → List ℕ
write_sections t =
    write_counted (fixed bone) t.bones
    ++ (write_counted (fixed morph) t.morphs
    ++ (write_counted (fixed camera) t.cameras
    ++ (write_counted (fixed light) t.lights
    ++ (write_counted (fixed self_shadow) t.self_shadows
    ++ write_counted property t.properties))))

-- the file of a take in an edition
unfoldable pub write_edition : Edition → Take → List ℕ
write_edition e t = write_header e t.model ++ write_sections t

-- the canonical file of a take (document 01's term): the bytes that export writes
unfoldable pub write_take : Take → List ℕ
write_take t = write_edition newer t

-- "the newer magic, and the 10 name bytes with 10 zeros after them"; then the sections
unfoldable pub widened : List ℕ → List ℕ
widened s = magic ++ (0 ∷ 0 ∷ 0 ∷ 0 ∷ (take 10 (drop 30 s) ++ (replicate 10 0 ++ drop 40 s)))
