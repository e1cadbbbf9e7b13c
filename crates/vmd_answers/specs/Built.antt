-- Parts built, each fault alone, some with another, names of one pair. The parts below have none.
-- Written by oracle/samples.sh from the original's answers, not by hand.
use Rattle.std.specs.Prelude.{ℕ, List, [], ◌∷◌, ◌++◌, take, drop, replicate, T}
use Rattle.vmd_format.specs.Computed.{computed, counting}
use Rattle.vmd_answers.specs.Said.{parts, build_refuses, builds, empty, six_out}

abbrev pub model : List ℕ
model = (77 ∷ 105 ∷ [])

abbrev pub bone_bytes : List ℕ
bone_bytes = (65 ∷ 131 ∷ 65 ∷ 177 ∷ [])

abbrev pub bone_ends : List ℕ
bone_ends = (1 ∷ 4 ∷ [])

abbrev pub morph_bytes : List ℕ
morph_bytes = (68 ∷ [])

abbrev pub morph_ends : List ℕ
morph_ends = (1 ∷ [])

abbrev pub cameras : List ℕ
cameras = (5 ∷ []) ++ replicate 6 0 ++ (192 ∷ 0 ∷ 0 ∷ 0 ∷ 63 ∷ 255 ∷ 255 ∷ 127 ∷ 127 ∷ 1 ∷ []) ++ replicate 5 0 ++ (128 ∷ 63 ∷ 0 ∷ 0 ∷ 0 ∷ 192 ∷ 0 ∷ 0 ∷ 0 ∷ 63 ∷ []) ++ counting 1 24 ++ (45 ∷ 0 ∷ 0 ∷ 0 ∷ 2 ∷ [])

abbrev pub lights : List ℕ
lights = (4 ∷ []) ++ replicate 5 0 ++ (128 ∷ 63 ∷ 0 ∷ 0 ∷ 0 ∷ 192 ∷ 0 ∷ 0 ∷ 0 ∷ 63 ∷ 255 ∷ 255 ∷ 127 ∷ 127 ∷ 1 ∷ []) ++ replicate 5 0 ++ (128 ∷ 63 ∷ [])

abbrev pub shadows : List ℕ
shadows = (3 ∷ 0 ∷ 0 ∷ 0 ∷ 2 ∷ 0 ∷ 0 ∷ 0 ∷ 192 ∷ [])

abbrev pub properties : List ℕ
properties = (112 ∷ 17 ∷ 1 ∷ 0 ∷ 255 ∷ 1 ∷ 0 ∷ 0 ∷ 0 ∷ 75 ∷ 0 ∷ []) ++ replicate 18 88 ++ (128 ∷ [])

abbrev pub bone_indices : List ℕ
bone_indices = (1 ∷ 0 ∷ [])

abbrev pub bone_frames : List ℕ
bone_frames = (8 ∷ 6 ∷ [])

abbrev pub translations : List ℕ
translations = (0x3f800000 ∷ 0xc0000000 ∷ 0x3f000000 ∷ 0x7f7fffff ∷ 1 ∷ 0x3f800000 ∷ [])

abbrev pub rotations : List ℕ
rotations = (0x3f000000 ∷ 0x7f7fffff ∷ 1 ∷ 0x3f800000 ∷ 0xc0000000 ∷ 0x3f000000 ∷ 0x7f7fffff ∷ 1 ∷ [])

abbrev pub interpolations : List ℕ
interpolations = counting 1 128

abbrev pub morph_indices : List ℕ
morph_indices = (0 ∷ [])

abbrev pub morph_frames : List ℕ
morph_frames = (9 ∷ [])

abbrev pub weights : List ℕ
weights = (0x3f000000 ∷ [])

-- what is built from them
abbrev pub sound_out : List ℕ
sound_out = take 50 six_out ++ (2 ∷ 0 ∷ 0 ∷ 0 ∷ 131 ∷ 65 ∷ 177 ∷ []) ++ replicate 12 0 ++ (8 ∷ []) ++ replicate 5 0 ++ (128 ∷ 63 ∷ 0 ∷ 0 ∷ 0 ∷ 192 ∷ 0 ∷ 0 ∷ 0 ∷ 63 ∷ 0 ∷ 0 ∷ 0 ∷ 63 ∷ 255 ∷ 255 ∷ 127 ∷ 127 ∷ 1 ∷ []) ++ replicate 5 0 ++ (128 ∷ 63 ∷ []) ++ counting 1 65 ++ replicate 14 0 ++ (6 ∷ 0 ∷ 0 ∷ 0 ∷ 255 ∷ 255 ∷ 127 ∷ 127 ∷ 1 ∷ []) ++ replicate 5 0 ++ (128 ∷ 63 ∷ 0 ∷ 0 ∷ 0 ∷ 192 ∷ 0 ∷ 0 ∷ 0 ∷ 63 ∷ 255 ∷ 255 ∷ 127 ∷ 127 ∷ 1 ∷ 0 ∷ 0 ∷ 0 ∷ []) ++ counting 65 64 ++ (1 ∷ 0 ∷ 0 ∷ 0 ∷ 68 ∷ []) ++ replicate 14 0 ++ (9 ∷ []) ++ replicate 6 0 ++ (63 ∷ 1 ∷ 0 ∷ 0 ∷ 0 ∷ 5 ∷ []) ++ replicate 6 0 ++ (192 ∷ 0 ∷ 0 ∷ 0 ∷ 63 ∷ 255 ∷ 255 ∷ 127 ∷ 127 ∷ 1 ∷ []) ++ replicate 5 0 ++ (128 ∷ 63 ∷ 0 ∷ 0 ∷ 0 ∷ 192 ∷ 0 ∷ 0 ∷ 0 ∷ 63 ∷ []) ++ counting 1 24 ++ (45 ∷ 0 ∷ 0 ∷ 0 ∷ 1 ∷ 1 ∷ 0 ∷ 0 ∷ 0 ∷ 4 ∷ []) ++ replicate 5 0 ++ (128 ∷ 63 ∷ 0 ∷ 0 ∷ 0 ∷ 192 ∷ 0 ∷ 0 ∷ 0 ∷ 63 ∷ 255 ∷ 255 ∷ 127 ∷ 127 ∷ 1 ∷ []) ++ replicate 5 0 ++ (128 ∷ 63 ∷ 1 ∷ 0 ∷ 0 ∷ 0 ∷ 3 ∷ 0 ∷ 0 ∷ 0 ∷ 2 ∷ 0 ∷ 0 ∷ 0 ∷ 192 ∷ 1 ∷ 0 ∷ 0 ∷ 0 ∷ 112 ∷ 17 ∷ 1 ∷ 0 ∷ 1 ∷ 1 ∷ 0 ∷ 0 ∷ 0 ∷ 75 ∷ []) ++ replicate 19 0 ++ (1 ∷ [])

pub sound : T (builds (parts model bone_bytes bone_ends morph_bytes morph_ends cameras lights shadows properties bone_indices bone_frames translations rotations interpolations morph_indices morph_frames weights) sound_out)
unfolding computed
sound = tt

pub no_parts : T (builds (parts [] [] [] [] [] [] [] [] [] [] [] [] [] [] [] [] []) empty)
unfolding computed
no_parts = tt

pub random_0 : T (builds (parts (250 ∷ 80 ∷ 248 ∷ 113 ∷ 104 ∷ 226 ∷ 239 ∷ []) (218 ∷ 157 ∷ 193 ∷ 139 ∷ 101 ∷ 147 ∷ 156 ∷ 155 ∷ 122 ∷ 128 ∷ 18 ∷ 234 ∷ 147 ∷ []) (13 ∷ []) (54 ∷ 137 ∷ 191 ∷ 15 ∷ []) (4 ∷ []) (191 ∷ 10 ∷ 0 ∷ 0 ∷ 203 ∷ 248 ∷ 191 ∷ 241 ∷ 0 ∷ 0 ∷ 33 ∷ 65 ∷ 145 ∷ 198 ∷ 192 ∷ 165 ∷ 0 ∷ 192 ∷ 127 ∷ 66 ∷ 76 ∷ 32 ∷ 239 ∷ 161 ∷ 0 ∷ 128 ∷ 186 ∷ 65 ∷ 0 ∷ 0 ∷ 224 ∷ 63 ∷ 165 ∷ 195 ∷ 103 ∷ 36 ∷ 73 ∷ 142 ∷ 104 ∷ 135 ∷ 117 ∷ 64 ∷ 236 ∷ 204 ∷ 255 ∷ 243 ∷ 237 ∷ 86 ∷ 85 ∷ 190 ∷ 179 ∷ 40 ∷ 139 ∷ 223 ∷ 210 ∷ 60 ∷ 190 ∷ 48 ∷ 60 ∷ 6 ∷ 1 ∷ []) [] [] [] (0 ∷ []) (0xfb27df05 ∷ []) (0xbc5699f5 ∷ 0xc2384000 ∷ 0x4265c000 ∷ []) (0xc1880000 ∷ 0xc1910000 ∷ 0xc88641c2 ∷ 0x80000000 ∷ []) (212 ∷ 207 ∷ 175 ∷ 233 ∷ 237 ∷ 117 ∷ 205 ∷ 227 ∷ 93 ∷ 47 ∷ 144 ∷ 8 ∷ 112 ∷ 13 ∷ 201 ∷ 195 ∷ 61 ∷ 255 ∷ 98 ∷ 3 ∷ 150 ∷ 153 ∷ 179 ∷ 172 ∷ 86 ∷ 33 ∷ 69 ∷ 46 ∷ 132 ∷ 69 ∷ 30 ∷ 86 ∷ 130 ∷ 161 ∷ 82 ∷ 7 ∷ 227 ∷ 237 ∷ 159 ∷ 151 ∷ 110 ∷ 41 ∷ 72 ∷ 17 ∷ 47 ∷ 16 ∷ 179 ∷ 228 ∷ 82 ∷ 79 ∷ 126 ∷ 213 ∷ 249 ∷ 234 ∷ 235 ∷ 151 ∷ 153 ∷ 243 ∷ 123 ∷ 109 ∷ 178 ∷ 17 ∷ 176 ∷ 73 ∷ []) morph_indices (1098 ∷ []) (0xf4cc2030 ∷ [])) (take 30 empty ++ (250 ∷ 80 ∷ 248 ∷ 113 ∷ 104 ∷ 226 ∷ 239 ∷ []) ++ replicate 13 0 ++ (1 ∷ 0 ∷ 0 ∷ 0 ∷ 218 ∷ 157 ∷ 193 ∷ 139 ∷ 101 ∷ 147 ∷ 156 ∷ 155 ∷ 122 ∷ 128 ∷ 18 ∷ 234 ∷ 147 ∷ 0 ∷ 0 ∷ 5 ∷ 223 ∷ 39 ∷ 251 ∷ 245 ∷ 153 ∷ 86 ∷ 188 ∷ 0 ∷ 64 ∷ 56 ∷ 194 ∷ 0 ∷ 192 ∷ 101 ∷ 66 ∷ 0 ∷ 0 ∷ 136 ∷ 193 ∷ 0 ∷ 0 ∷ 145 ∷ 193 ∷ 194 ∷ 65 ∷ 134 ∷ 200 ∷ 0 ∷ 0 ∷ 0 ∷ 128 ∷ 212 ∷ 207 ∷ 175 ∷ 233 ∷ 237 ∷ 117 ∷ 205 ∷ 227 ∷ 93 ∷ 47 ∷ 144 ∷ 8 ∷ 112 ∷ 13 ∷ 201 ∷ 195 ∷ 61 ∷ 255 ∷ 98 ∷ 3 ∷ 150 ∷ 153 ∷ 179 ∷ 172 ∷ 86 ∷ 33 ∷ 69 ∷ 46 ∷ 132 ∷ 69 ∷ 30 ∷ 86 ∷ 130 ∷ 161 ∷ 82 ∷ 7 ∷ 227 ∷ 237 ∷ 159 ∷ 151 ∷ 110 ∷ 41 ∷ 72 ∷ 17 ∷ 47 ∷ 16 ∷ 179 ∷ 228 ∷ 82 ∷ 79 ∷ 126 ∷ 213 ∷ 249 ∷ 234 ∷ 235 ∷ 151 ∷ 153 ∷ 243 ∷ 123 ∷ 109 ∷ 178 ∷ 17 ∷ 176 ∷ 73 ∷ 1 ∷ 0 ∷ 0 ∷ 0 ∷ 54 ∷ 137 ∷ 191 ∷ 15 ∷ []) ++ replicate 11 0 ++ (74 ∷ 4 ∷ 0 ∷ 0 ∷ 48 ∷ 32 ∷ 204 ∷ 244 ∷ 1 ∷ 0 ∷ 0 ∷ 0 ∷ 191 ∷ 10 ∷ 0 ∷ 0 ∷ 203 ∷ 248 ∷ 191 ∷ 241 ∷ 0 ∷ 0 ∷ 33 ∷ 65 ∷ 145 ∷ 198 ∷ 192 ∷ 165 ∷ 0 ∷ 192 ∷ 127 ∷ 66 ∷ 76 ∷ 32 ∷ 239 ∷ 161 ∷ 0 ∷ 128 ∷ 186 ∷ 65 ∷ 0 ∷ 0 ∷ 224 ∷ 63 ∷ 165 ∷ 195 ∷ 103 ∷ 36 ∷ 73 ∷ 142 ∷ 104 ∷ 135 ∷ 117 ∷ 64 ∷ 236 ∷ 204 ∷ 255 ∷ 243 ∷ 237 ∷ 86 ∷ 85 ∷ 190 ∷ 179 ∷ 40 ∷ 139 ∷ 223 ∷ 210 ∷ 60 ∷ 190 ∷ 48 ∷ 60 ∷ 6 ∷ 1 ∷ []) ++ drop 62 empty))
unfolding computed
random_0 = tt

pub random_1 : T (builds (parts (20 ∷ 99 ∷ 33 ∷ 146 ∷ 66 ∷ 122 ∷ []) (141 ∷ 73 ∷ 55 ∷ 93 ∷ 249 ∷ 71 ∷ 228 ∷ 100 ∷ 227 ∷ 137 ∷ 182 ∷ []) (11 ∷ []) (195 ∷ 156 ∷ 151 ∷ 210 ∷ 182 ∷ 150 ∷ 128 ∷ 231 ∷ 183 ∷ []) (9 ∷ []) [] (79 ∷ 5 ∷ 0 ∷ 0 ∷ 101 ∷ 59 ∷ 129 ∷ 101 ∷ 23 ∷ 243 ∷ 32 ∷ 116 ∷ 255 ∷ 255 ∷ 127 ∷ 127 ∷ 113 ∷ 80 ∷ 250 ∷ 132 ∷ 0 ∷ 0 ∷ 107 ∷ 194 ∷ 216 ∷ 141 ∷ 185 ∷ 70 ∷ []) ((78 ∷ 4 ∷ []) ++ replicate 4 0 ++ (64 ∷ 101 ∷ 66 ∷ [])) ((111 ∷ 12 ∷ 0 ∷ 0 ∷ 2 ∷ []) ++ replicate 4 0) (0 ∷ []) (3635 ∷ []) (0xc22c8000 ∷ 0xc17c0000 ∷ 0xd02c2fc8 ∷ []) (0x42310000 ∷ 0x41838000 ∷ 0x1520566b ∷ 0xbe411894 ∷ []) (118 ∷ 79 ∷ 199 ∷ 69 ∷ 41 ∷ 69 ∷ 119 ∷ 21 ∷ 138 ∷ 132 ∷ 196 ∷ 25 ∷ 65 ∷ 211 ∷ 235 ∷ 27 ∷ 6 ∷ 152 ∷ 213 ∷ 116 ∷ 88 ∷ 127 ∷ 162 ∷ 207 ∷ 32 ∷ 156 ∷ 218 ∷ 245 ∷ 174 ∷ 56 ∷ 82 ∷ 22 ∷ 221 ∷ 57 ∷ 247 ∷ 158 ∷ 156 ∷ 19 ∷ 127 ∷ 198 ∷ 154 ∷ 232 ∷ 252 ∷ 193 ∷ 249 ∷ 41 ∷ 78 ∷ 99 ∷ 198 ∷ 143 ∷ 16 ∷ 77 ∷ 172 ∷ 105 ∷ 15 ∷ 116 ∷ 42 ∷ 34 ∷ 171 ∷ 228 ∷ 47 ∷ 41 ∷ 82 ∷ 83 ∷ []) [] [] []) (take 30 empty ++ (20 ∷ 99 ∷ 33 ∷ 146 ∷ 66 ∷ 122 ∷ []) ++ replicate 14 0 ++ (1 ∷ 0 ∷ 0 ∷ 0 ∷ 141 ∷ 73 ∷ 55 ∷ 93 ∷ 249 ∷ 71 ∷ 228 ∷ 100 ∷ 227 ∷ 137 ∷ 182 ∷ []) ++ replicate 4 0 ++ (51 ∷ 14 ∷ 0 ∷ 0 ∷ 0 ∷ 128 ∷ 44 ∷ 194 ∷ 0 ∷ 0 ∷ 124 ∷ 193 ∷ 200 ∷ 47 ∷ 44 ∷ 208 ∷ 0 ∷ 0 ∷ 49 ∷ 66 ∷ 0 ∷ 128 ∷ 131 ∷ 65 ∷ 107 ∷ 86 ∷ 32 ∷ 21 ∷ 148 ∷ 24 ∷ 65 ∷ 190 ∷ 118 ∷ 79 ∷ 199 ∷ 69 ∷ 41 ∷ 69 ∷ 119 ∷ 21 ∷ 138 ∷ 132 ∷ 196 ∷ 25 ∷ 65 ∷ 211 ∷ 235 ∷ 27 ∷ 6 ∷ 152 ∷ 213 ∷ 116 ∷ 88 ∷ 127 ∷ 162 ∷ 207 ∷ 32 ∷ 156 ∷ 218 ∷ 245 ∷ 174 ∷ 56 ∷ 82 ∷ 22 ∷ 221 ∷ 57 ∷ 247 ∷ 158 ∷ 156 ∷ 19 ∷ 127 ∷ 198 ∷ 154 ∷ 232 ∷ 252 ∷ 193 ∷ 249 ∷ 41 ∷ 78 ∷ 99 ∷ 198 ∷ 143 ∷ 16 ∷ 77 ∷ 172 ∷ 105 ∷ 15 ∷ 116 ∷ 42 ∷ 34 ∷ 171 ∷ 228 ∷ 47 ∷ 41 ∷ 82 ∷ 83 ∷ []) ++ replicate 8 0 ++ (1 ∷ 0 ∷ 0 ∷ 0 ∷ 79 ∷ 5 ∷ 0 ∷ 0 ∷ 101 ∷ 59 ∷ 129 ∷ 101 ∷ 23 ∷ 243 ∷ 32 ∷ 116 ∷ 255 ∷ 255 ∷ 127 ∷ 127 ∷ 113 ∷ 80 ∷ 250 ∷ 132 ∷ 0 ∷ 0 ∷ 107 ∷ 194 ∷ 216 ∷ 141 ∷ 185 ∷ 70 ∷ 1 ∷ 0 ∷ 0 ∷ 0 ∷ 78 ∷ 4 ∷ []) ++ replicate 4 0 ++ (64 ∷ 101 ∷ 66 ∷ 1 ∷ 0 ∷ 0 ∷ 0 ∷ 111 ∷ 12 ∷ 0 ∷ 0 ∷ 1 ∷ []) ++ replicate 4 0))
unfolding computed
random_1 = tt

pub random_2 : T (builds (parts (179 ∷ []) [] [] (186 ∷ 215 ∷ 151 ∷ 188 ∷ 247 ∷ 73 ∷ 151 ∷ 176 ∷ 107 ∷ 78 ∷ []) (10 ∷ []) [] [] [] [] [] [] [] [] [] morph_indices (820 ∷ []) (0x409a0000 ∷ [])) (take 30 empty ++ (179 ∷ []) ++ replicate 23 0 ++ (1 ∷ 0 ∷ 0 ∷ 0 ∷ 186 ∷ 215 ∷ 151 ∷ 188 ∷ 247 ∷ 73 ∷ 151 ∷ 176 ∷ 107 ∷ 78 ∷ []) ++ replicate 5 0 ++ (52 ∷ 3 ∷ []) ++ replicate 4 0 ++ (154 ∷ 64 ∷ []) ++ drop 58 empty))
unfolding computed
random_2 = tt

pub random_3 : T (builds (parts (117 ∷ 231 ∷ 216 ∷ 81 ∷ 229 ∷ 196 ∷ 251 ∷ 149 ∷ 166 ∷ 28 ∷ 43 ∷ 199 ∷ 36 ∷ 187 ∷ 154 ∷ 129 ∷ 243 ∷ 141 ∷ []) [] [] (220 ∷ 115 ∷ 4 ∷ 219 ∷ 148 ∷ 117 ∷ 229 ∷ 137 ∷ 220 ∷ 158 ∷ 201 ∷ []) (11 ∷ []) [] [] (161 ∷ 0 ∷ 0 ∷ 0 ∷ 2 ∷ 0 ∷ 0 ∷ 128 ∷ 63 ∷ []) ((6 ∷ 9 ∷ 0 ∷ 0 ∷ 1 ∷ 3 ∷ 0 ∷ 0 ∷ 0 ∷ 201 ∷ 232 ∷ 241 ∷ 215 ∷ 101 ∷ 162 ∷ 249 ∷ 114 ∷ 196 ∷ 143 ∷ 147 ∷ 242 ∷ 150 ∷ 152 ∷ 86 ∷ 62 ∷ 248 ∷ 197 ∷ 0 ∷ 0 ∷ 128 ∷ 88 ∷ 220 ∷ 136 ∷ 222 ∷ 58 ∷ 142 ∷ 111 ∷ 155 ∷ 185 ∷ 139 ∷ 162 ∷ 252 ∷ 70 ∷ 139 ∷ 198 ∷ []) ++ replicate 5 0 ++ (255 ∷ 232 ∷ 104 ∷ []) ++ replicate 18 0 ++ (2 ∷ [])) [] [] [] [] [] [] [] []) (take 30 sound_out ++ (117 ∷ 231 ∷ 216 ∷ 81 ∷ 229 ∷ 196 ∷ 251 ∷ 149 ∷ 166 ∷ 28 ∷ 43 ∷ 199 ∷ 36 ∷ 187 ∷ 154 ∷ 129 ∷ 243 ∷ 141 ∷ []) ++ replicate 18 0 ++ (1 ∷ 0 ∷ 0 ∷ 0 ∷ 161 ∷ 0 ∷ 0 ∷ 0 ∷ 2 ∷ 0 ∷ 0 ∷ 128 ∷ 63 ∷ 1 ∷ 0 ∷ 0 ∷ 0 ∷ 6 ∷ 9 ∷ 0 ∷ 0 ∷ 1 ∷ 3 ∷ 0 ∷ 0 ∷ 0 ∷ 201 ∷ 232 ∷ 241 ∷ 215 ∷ 101 ∷ 162 ∷ 249 ∷ 114 ∷ 196 ∷ 143 ∷ 147 ∷ 242 ∷ 150 ∷ 152 ∷ 86 ∷ 62 ∷ 248 ∷ 197 ∷ 0 ∷ 0 ∷ 1 ∷ 88 ∷ 220 ∷ 136 ∷ 222 ∷ 58 ∷ 142 ∷ 111 ∷ 155 ∷ 185 ∷ 139 ∷ 162 ∷ 252 ∷ 70 ∷ 139 ∷ 198 ∷ []) ++ replicate 5 0 ++ (1 ∷ 232 ∷ 104 ∷ []) ++ drop 428 sound_out))
unfolding computed
random_3 = tt

pub random_4 : T (builds (parts (243 ∷ 153 ∷ 250 ∷ 244 ∷ 159 ∷ 249 ∷ 112 ∷ 84 ∷ []) [] [] (232 ∷ 201 ∷ 155 ∷ 232 ∷ 23 ∷ 209 ∷ 165 ∷ []) (7 ∷ []) ((124 ∷ 11 ∷ []) ++ replicate 4 0 ++ (27 ∷ 66 ∷ 0 ∷ 0 ∷ 0 ∷ 128 ∷ 108 ∷ 140 ∷ 14 ∷ 126 ∷ 0 ∷ 0 ∷ 128 ∷ 64 ∷ 0 ∷ 64 ∷ 5 ∷ 66 ∷ 0 ∷ 0 ∷ 128 ∷ 63 ∷ 0 ∷ 0 ∷ 0 ∷ 128 ∷ 206 ∷ 126 ∷ 2 ∷ 63 ∷ 88 ∷ 194 ∷ 5 ∷ 205 ∷ 58 ∷ 47 ∷ 135 ∷ 31 ∷ 225 ∷ 144 ∷ 1 ∷ 13 ∷ 142 ∷ 37 ∷ 101 ∷ 114 ∷ 219 ∷ 50 ∷ 161 ∷ 159 ∷ 168 ∷ 104 ∷ 74 ∷ 100 ∷ 0 ∷ [])) ((160 ∷ 7 ∷ []) ++ replicate 4 0 ++ (28 ∷ 193 ∷ 255 ∷ 255 ∷ 127 ∷ 0 ∷ 148 ∷ 126 ∷ 249 ∷ 71 ∷ 0 ∷ 128 ∷ 139 ∷ 65 ∷ 0 ∷ 0 ∷ 128 ∷ 63 ∷ 1 ∷ 0 ∷ 0 ∷ 0 ∷ [])) ((230 ∷ 2 ∷ []) ++ replicate 5 0 ++ (64 ∷ 192 ∷ [])) [] [] [] [] [] [] morph_indices (348 ∷ []) (0xe26e454c ∷ [])) (take 30 empty ++ (243 ∷ 153 ∷ 250 ∷ 244 ∷ 159 ∷ 249 ∷ 112 ∷ 84 ∷ []) ++ replicate 16 0 ++ (1 ∷ 0 ∷ 0 ∷ 0 ∷ 232 ∷ 201 ∷ 155 ∷ 232 ∷ 23 ∷ 209 ∷ 165 ∷ []) ++ replicate 8 0 ++ (92 ∷ 1 ∷ 0 ∷ 0 ∷ 76 ∷ 69 ∷ 110 ∷ 226 ∷ 1 ∷ 0 ∷ 0 ∷ 0 ∷ 124 ∷ 11 ∷ []) ++ replicate 4 0 ++ (27 ∷ 66 ∷ 0 ∷ 0 ∷ 0 ∷ 128 ∷ 108 ∷ 140 ∷ 14 ∷ 126 ∷ 0 ∷ 0 ∷ 128 ∷ 64 ∷ 0 ∷ 64 ∷ 5 ∷ 66 ∷ 0 ∷ 0 ∷ 128 ∷ 63 ∷ 0 ∷ 0 ∷ 0 ∷ 128 ∷ 206 ∷ 126 ∷ 2 ∷ 63 ∷ 88 ∷ 194 ∷ 5 ∷ 205 ∷ 58 ∷ 47 ∷ 135 ∷ 31 ∷ 225 ∷ 144 ∷ 1 ∷ 13 ∷ 142 ∷ 37 ∷ 101 ∷ 114 ∷ 219 ∷ 50 ∷ 161 ∷ 159 ∷ 168 ∷ 104 ∷ 74 ∷ 100 ∷ 0 ∷ 1 ∷ 0 ∷ 0 ∷ 0 ∷ 160 ∷ 7 ∷ []) ++ replicate 4 0 ++ (28 ∷ 193 ∷ 255 ∷ 255 ∷ 127 ∷ 0 ∷ 148 ∷ 126 ∷ 249 ∷ 71 ∷ 0 ∷ 128 ∷ 139 ∷ 65 ∷ 0 ∷ 0 ∷ 128 ∷ 63 ∷ 1 ∷ 0 ∷ 0 ∷ 0 ∷ 1 ∷ 0 ∷ 0 ∷ 0 ∷ 230 ∷ 2 ∷ []) ++ replicate 5 0 ++ (64 ∷ 192 ∷ []) ++ replicate 4 0))
unfolding computed
random_4 = tt

pub random_5 : T (builds (parts (38 ∷ 147 ∷ 147 ∷ 55 ∷ 251 ∷ 250 ∷ 57 ∷ 229 ∷ 159 ∷ 75 ∷ []) (138 ∷ 142 ∷ 144 ∷ 123 ∷ 140 ∷ 135 ∷ 212 ∷ 25 ∷ 159 ∷ 105 ∷ 177 ∷ 83 ∷ []) (12 ∷ []) [] [] [] ((205 ∷ []) ++ replicate 5 0 ++ (25 ∷ 193 ∷ 120 ∷ 223 ∷ 76 ∷ 175 ∷ 0 ∷ 0 ∷ 131 ∷ 65 ∷ 0 ∷ 0 ∷ 1 ∷ 66 ∷ 202 ∷ 42 ∷ 166 ∷ 56 ∷ 0 ∷ 192 ∷ 55 ∷ 194 ∷ [])) (238 ∷ 230 ∷ 160 ∷ 250 ∷ 2 ∷ 0 ∷ 0 ∷ 104 ∷ 192 ∷ []) ((54 ∷ 12 ∷ 0 ∷ 0 ∷ 0 ∷ 1 ∷ 0 ∷ 0 ∷ 0 ∷ 243 ∷ 105 ∷ 140 ∷ 187 ∷ 231 ∷ 163 ∷ 159 ∷ 134 ∷ []) ++ replicate 12 0 ++ (1 ∷ [])) [] [] [] [] [] [] [] []) (take 30 sound_out ++ (38 ∷ 147 ∷ 147 ∷ 55 ∷ 251 ∷ 250 ∷ 57 ∷ 229 ∷ 159 ∷ 75 ∷ []) ++ replicate 22 0 ++ (1 ∷ 0 ∷ 0 ∷ 0 ∷ 205 ∷ []) ++ replicate 5 0 ++ (25 ∷ 193 ∷ 120 ∷ 223 ∷ 76 ∷ 175 ∷ 0 ∷ 0 ∷ 131 ∷ 65 ∷ 0 ∷ 0 ∷ 1 ∷ 66 ∷ 202 ∷ 42 ∷ 166 ∷ 56 ∷ 0 ∷ 192 ∷ 55 ∷ 194 ∷ 1 ∷ 0 ∷ 0 ∷ 0 ∷ 238 ∷ 230 ∷ 160 ∷ 250 ∷ 2 ∷ 0 ∷ 0 ∷ 104 ∷ 192 ∷ 1 ∷ 0 ∷ 0 ∷ 0 ∷ 54 ∷ 12 ∷ 0 ∷ 0 ∷ 0 ∷ 1 ∷ 0 ∷ 0 ∷ 0 ∷ 243 ∷ 105 ∷ 140 ∷ 187 ∷ 231 ∷ 163 ∷ 159 ∷ 134 ∷ []) ++ drop 434 sound_out))
unfolding computed
random_5 = tt

pub random_6 : T (builds (parts (238 ∷ 246 ∷ 131 ∷ 95 ∷ 177 ∷ 203 ∷ 161 ∷ 165 ∷ 146 ∷ 64 ∷ 189 ∷ 200 ∷ []) (251 ∷ 234 ∷ []) (2 ∷ []) (197 ∷ 190 ∷ []) (2 ∷ []) ((2 ∷ 3 ∷ []) ++ replicate 6 0 ++ (167 ∷ 26 ∷ 191 ∷ 15 ∷ 0 ∷ 192 ∷ 83 ∷ 66 ∷ 0 ∷ 64 ∷ 108 ∷ 66 ∷ 255 ∷ 255 ∷ 127 ∷ 255 ∷ 0 ∷ 0 ∷ 81 ∷ 193 ∷ 113 ∷ 128 ∷ 242 ∷ 38 ∷ 142 ∷ 21 ∷ 37 ∷ 141 ∷ 233 ∷ 59 ∷ 232 ∷ 4 ∷ 40 ∷ 186 ∷ 213 ∷ 80 ∷ 104 ∷ 235 ∷ 172 ∷ 155 ∷ 59 ∷ 235 ∷ 45 ∷ 68 ∷ 235 ∷ 225 ∷ 215 ∷ 29 ∷ 252 ∷ 113 ∷ 15 ∷ 43 ∷ 0 ∷ [])) ((178 ∷ 4 ∷ []) ++ replicate 4 0 ++ (67 ∷ 193 ∷ 129 ∷ 216 ∷ 98 ∷ 91 ∷ 193 ∷ 134 ∷ 184 ∷ 23 ∷ 0 ∷ 0 ∷ 128 ∷ 0 ∷ 1 ∷ 0 ∷ 0 ∷ 128 ∷ 28 ∷ 60 ∷ 27 ∷ 24 ∷ [])) ((245 ∷ 14 ∷ []) ++ replicate 5 0 ++ (128 ∷ 63 ∷ [])) [] [] [] [] [] [] [] [] []) (take 30 empty ++ (238 ∷ 246 ∷ 131 ∷ 95 ∷ 177 ∷ 203 ∷ 161 ∷ 165 ∷ 146 ∷ 64 ∷ 189 ∷ 200 ∷ []) ++ replicate 16 0 ++ (1 ∷ 0 ∷ 0 ∷ 0 ∷ 2 ∷ 3 ∷ []) ++ replicate 6 0 ++ (167 ∷ 26 ∷ 191 ∷ 15 ∷ 0 ∷ 192 ∷ 83 ∷ 66 ∷ 0 ∷ 64 ∷ 108 ∷ 66 ∷ 255 ∷ 255 ∷ 127 ∷ 255 ∷ 0 ∷ 0 ∷ 81 ∷ 193 ∷ 113 ∷ 128 ∷ 242 ∷ 38 ∷ 142 ∷ 21 ∷ 37 ∷ 141 ∷ 233 ∷ 59 ∷ 232 ∷ 4 ∷ 40 ∷ 186 ∷ 213 ∷ 80 ∷ 104 ∷ 235 ∷ 172 ∷ 155 ∷ 59 ∷ 235 ∷ 45 ∷ 68 ∷ 235 ∷ 225 ∷ 215 ∷ 29 ∷ 252 ∷ 113 ∷ 15 ∷ 43 ∷ 0 ∷ 1 ∷ 0 ∷ 0 ∷ 0 ∷ 178 ∷ 4 ∷ []) ++ replicate 4 0 ++ (67 ∷ 193 ∷ 129 ∷ 216 ∷ 98 ∷ 91 ∷ 193 ∷ 134 ∷ 184 ∷ 23 ∷ 0 ∷ 0 ∷ 128 ∷ 0 ∷ 1 ∷ 0 ∷ 0 ∷ 128 ∷ 28 ∷ 60 ∷ 27 ∷ 24 ∷ 1 ∷ 0 ∷ 0 ∷ 0 ∷ 245 ∷ 14 ∷ []) ++ replicate 5 0 ++ (128 ∷ 63 ∷ []) ++ replicate 4 0))
unfolding computed
random_6 = tt

pub random_7 : T (builds (parts (207 ∷ 213 ∷ []) (240 ∷ 145 ∷ 226 ∷ 248 ∷ 211 ∷ 60 ∷ 245 ∷ 95 ∷ 179 ∷ 186 ∷ 157 ∷ 134 ∷ []) (12 ∷ []) [] [] (57 ∷ 12 ∷ 0 ∷ 0 ∷ 1 ∷ 0 ∷ 0 ∷ 128 ∷ 255 ∷ 255 ∷ 127 ∷ 255 ∷ 0 ∷ 0 ∷ 92 ∷ 194 ∷ 158 ∷ 163 ∷ 184 ∷ 217 ∷ 0 ∷ 0 ∷ 134 ∷ 192 ∷ 182 ∷ 62 ∷ 14 ∷ 61 ∷ 27 ∷ 14 ∷ 127 ∷ 133 ∷ 190 ∷ 234 ∷ 97 ∷ 224 ∷ 34 ∷ 194 ∷ 216 ∷ 186 ∷ 190 ∷ 245 ∷ 63 ∷ 92 ∷ 116 ∷ 55 ∷ 71 ∷ 137 ∷ 247 ∷ 122 ∷ 140 ∷ 197 ∷ 232 ∷ 200 ∷ 236 ∷ 65 ∷ 4 ∷ 101 ∷ 221 ∷ 138 ∷ 0 ∷ []) [] (74 ∷ 175 ∷ 244 ∷ 89 ∷ 2 ∷ 255 ∷ 255 ∷ 127 ∷ 127 ∷ []) [] (0 ∷ []) (2961 ∷ []) (0x4209c000 ∷ 0xce26e167 ∷ 0x13b65670 ∷ []) (0x4258c000 ∷ 0x41db0000 ∷ 0x42764000 ∷ 0xff7fffff ∷ []) (76 ∷ 249 ∷ 185 ∷ 214 ∷ 109 ∷ 94 ∷ 246 ∷ 76 ∷ 234 ∷ 251 ∷ 177 ∷ 147 ∷ 197 ∷ 40 ∷ 213 ∷ 106 ∷ 184 ∷ 97 ∷ 80 ∷ 177 ∷ 69 ∷ 142 ∷ 125 ∷ 213 ∷ 31 ∷ 131 ∷ 26 ∷ 153 ∷ 164 ∷ 44 ∷ 12 ∷ 126 ∷ 186 ∷ 64 ∷ 110 ∷ 59 ∷ 190 ∷ 42 ∷ 177 ∷ 167 ∷ 251 ∷ 38 ∷ 130 ∷ 101 ∷ 108 ∷ 11 ∷ 222 ∷ 252 ∷ 69 ∷ 234 ∷ 243 ∷ 86 ∷ 85 ∷ 187 ∷ 13 ∷ 117 ∷ 10 ∷ 239 ∷ 238 ∷ 61 ∷ 46 ∷ 11 ∷ 158 ∷ 191 ∷ []) [] [] []) (take 30 empty ++ (207 ∷ 213 ∷ []) ++ replicate 18 0 ++ (1 ∷ 0 ∷ 0 ∷ 0 ∷ 240 ∷ 145 ∷ 226 ∷ 248 ∷ 211 ∷ 60 ∷ 245 ∷ 95 ∷ 179 ∷ 186 ∷ 157 ∷ 134 ∷ 0 ∷ 0 ∷ 0 ∷ 145 ∷ 11 ∷ 0 ∷ 0 ∷ 0 ∷ 192 ∷ 9 ∷ 66 ∷ 103 ∷ 225 ∷ 38 ∷ 206 ∷ 112 ∷ 86 ∷ 182 ∷ 19 ∷ 0 ∷ 192 ∷ 88 ∷ 66 ∷ 0 ∷ 0 ∷ 219 ∷ 65 ∷ 0 ∷ 64 ∷ 118 ∷ 66 ∷ 255 ∷ 255 ∷ 127 ∷ 255 ∷ 76 ∷ 249 ∷ 185 ∷ 214 ∷ 109 ∷ 94 ∷ 246 ∷ 76 ∷ 234 ∷ 251 ∷ 177 ∷ 147 ∷ 197 ∷ 40 ∷ 213 ∷ 106 ∷ 184 ∷ 97 ∷ 80 ∷ 177 ∷ 69 ∷ 142 ∷ 125 ∷ 213 ∷ 31 ∷ 131 ∷ 26 ∷ 153 ∷ 164 ∷ 44 ∷ 12 ∷ 126 ∷ 186 ∷ 64 ∷ 110 ∷ 59 ∷ 190 ∷ 42 ∷ 177 ∷ 167 ∷ 251 ∷ 38 ∷ 130 ∷ 101 ∷ 108 ∷ 11 ∷ 222 ∷ 252 ∷ 69 ∷ 234 ∷ 243 ∷ 86 ∷ 85 ∷ 187 ∷ 13 ∷ 117 ∷ 10 ∷ 239 ∷ 238 ∷ 61 ∷ 46 ∷ 11 ∷ 158 ∷ 191 ∷ []) ++ replicate 4 0 ++ (1 ∷ 0 ∷ 0 ∷ 0 ∷ 57 ∷ 12 ∷ 0 ∷ 0 ∷ 1 ∷ 0 ∷ 0 ∷ 128 ∷ 255 ∷ 255 ∷ 127 ∷ 255 ∷ 0 ∷ 0 ∷ 92 ∷ 194 ∷ 158 ∷ 163 ∷ 184 ∷ 217 ∷ 0 ∷ 0 ∷ 134 ∷ 192 ∷ 182 ∷ 62 ∷ 14 ∷ 61 ∷ 27 ∷ 14 ∷ 127 ∷ 133 ∷ 190 ∷ 234 ∷ 97 ∷ 224 ∷ 34 ∷ 194 ∷ 216 ∷ 186 ∷ 190 ∷ 245 ∷ 63 ∷ 92 ∷ 116 ∷ 55 ∷ 71 ∷ 137 ∷ 247 ∷ 122 ∷ 140 ∷ 197 ∷ 232 ∷ 200 ∷ 236 ∷ 65 ∷ 4 ∷ 101 ∷ 221 ∷ 138 ∷ []) ++ replicate 5 0 ++ (1 ∷ 0 ∷ 0 ∷ 0 ∷ 74 ∷ 175 ∷ 244 ∷ 89 ∷ 2 ∷ 255 ∷ 255 ∷ 127 ∷ 127 ∷ []) ++ replicate 4 0))
unfolding computed
random_7 = tt

pub with_bone_ends_fall : T (build_refuses (parts model (65 ∷ 131 ∷ 65 ∷ 177 ∷ 65 ∷ []) (1 ∷ 4 ∷ 5 ∷ 4 ∷ 5 ∷ []) morph_bytes morph_ends cameras lights shadows properties bone_indices bone_frames translations rotations interpolations morph_indices morph_frames weights) 5)
unfolding computed
with_bone_ends_fall = tt

pub with_bone_ends_short : T (build_refuses (parts model (65 ∷ 131 ∷ 65 ∷ 177 ∷ 65 ∷ []) bone_ends morph_bytes morph_ends cameras lights shadows properties bone_indices bone_frames translations rotations interpolations morph_indices morph_frames weights) 5)
unfolding computed
with_bone_ends_short = tt

pub with_bone_ends_long : T (build_refuses (parts model bone_bytes (1 ∷ 5 ∷ []) morph_bytes morph_ends cameras lights shadows properties bone_indices bone_frames translations rotations interpolations morph_indices morph_frames weights) 5)
unfolding computed
with_bone_ends_long = tt

pub with_bone_bytes_only : T (build_refuses (parts model (65 ∷ []) [] morph_bytes morph_ends cameras lights shadows properties bone_indices bone_frames translations rotations interpolations morph_indices morph_frames weights) 5)
unfolding computed
with_bone_bytes_only = tt

pub with_morph_ends_fall : T (build_refuses (parts model bone_bytes bone_ends (68 ∷ 65 ∷ []) (1 ∷ 2 ∷ 1 ∷ 2 ∷ []) cameras lights shadows properties bone_indices bone_frames translations rotations interpolations morph_indices morph_frames weights) 5)
unfolding computed
with_morph_ends_fall = tt

pub with_morph_ends_short : T (build_refuses (parts model bone_bytes bone_ends (68 ∷ 65 ∷ []) morph_ends cameras lights shadows properties bone_indices bone_frames translations rotations interpolations morph_indices morph_frames weights) 5)
unfolding computed
with_morph_ends_short = tt

pub with_morph_ends_long : T (build_refuses (parts model bone_bytes bone_ends morph_bytes (2 ∷ []) cameras lights shadows properties bone_indices bone_frames translations rotations interpolations morph_indices morph_frames weights) 5)
unfolding computed
with_morph_ends_long = tt

pub with_morph_bytes_only : T (build_refuses (parts model bone_bytes bone_ends (65 ∷ []) [] cameras lights shadows properties bone_indices bone_frames translations rotations interpolations morph_indices morph_frames weights) 5)
unfolding computed
with_morph_bytes_only = tt

pub with_camera_bytes : T (build_refuses (parts model bone_bytes bone_ends morph_bytes morph_ends ((5 ∷ []) ++ replicate 6 0 ++ (192 ∷ 0 ∷ 0 ∷ 0 ∷ 63 ∷ 255 ∷ 255 ∷ 127 ∷ 127 ∷ 1 ∷ []) ++ replicate 5 0 ++ (128 ∷ 63 ∷ 0 ∷ 0 ∷ 0 ∷ 192 ∷ 0 ∷ 0 ∷ 0 ∷ 63 ∷ []) ++ counting 1 24 ++ (45 ∷ 0 ∷ 0 ∷ 0 ∷ 2 ∷ 0 ∷ [])) lights shadows properties bone_indices bone_frames translations rotations interpolations morph_indices morph_frames weights) 5)
unfolding computed
with_camera_bytes = tt

pub with_light_bytes : T (build_refuses (parts model bone_bytes bone_ends morph_bytes morph_ends cameras ((4 ∷ []) ++ replicate 5 0 ++ (128 ∷ 63 ∷ 0 ∷ 0 ∷ 0 ∷ 192 ∷ 0 ∷ 0 ∷ 0 ∷ 63 ∷ 255 ∷ 255 ∷ 127 ∷ 127 ∷ 1 ∷ []) ++ replicate 5 0 ++ (128 ∷ [])) shadows properties bone_indices bone_frames translations rotations interpolations morph_indices morph_frames weights) 5)
unfolding computed
with_light_bytes = tt

pub with_self_shadow_bytes : T (build_refuses (parts model bone_bytes bone_ends morph_bytes morph_ends cameras lights (3 ∷ 0 ∷ 0 ∷ 0 ∷ 2 ∷ 0 ∷ 0 ∷ 0 ∷ []) properties bone_indices bone_frames translations rotations interpolations morph_indices morph_frames weights) 5)
unfolding computed
with_self_shadow_bytes = tt

pub with_property_cut : T (build_refuses (parts model bone_bytes bone_ends morph_bytes morph_ends cameras lights shadows ((112 ∷ 17 ∷ 1 ∷ 0 ∷ 255 ∷ 1 ∷ 0 ∷ 0 ∷ 0 ∷ 75 ∷ 0 ∷ []) ++ replicate 18 88) bone_indices bone_frames translations rotations interpolations morph_indices morph_frames weights) 5)
unfolding computed
with_property_cut = tt

pub with_property_bytes_over : T (build_refuses (parts model bone_bytes bone_ends morph_bytes morph_ends cameras lights shadows ((112 ∷ 17 ∷ 1 ∷ 0 ∷ 255 ∷ 1 ∷ 0 ∷ 0 ∷ 0 ∷ 75 ∷ 0 ∷ []) ++ replicate 18 88 ++ (128 ∷ 0 ∷ 0 ∷ 0 ∷ [])) bone_indices bone_frames translations rotations interpolations morph_indices morph_frames weights) 5)
unfolding computed
with_property_bytes_over = tt

pub with_ik_count : T (build_refuses (parts model bone_bytes bone_ends morph_bytes morph_ends cameras lights shadows ((112 ∷ 17 ∷ 1 ∷ 0 ∷ 255 ∷ 1 ∷ 0 ∷ 0 ∷ 0 ∷ 75 ∷ 0 ∷ []) ++ replicate 18 88 ++ (128 ∷ []) ++ replicate 5 0 ++ (12 ∷ 195 ∷ 48 ∷ 12 ∷ [])) bone_indices bone_frames translations rotations interpolations morph_indices morph_frames weights) 5)
unfolding computed
with_ik_count = tt

pub with_model_long : T (build_refuses (parts (186 ∷ 250 ∷ 145 ∷ 216 ∷ 64 ∷ 65 ∷ 191 ∷ 230 ∷ 162 ∷ 220 ∷ 250 ∷ 231 ∷ 30 ∷ 215 ∷ 248 ∷ 139 ∷ 214 ∷ 142 ∷ 223 ∷ 245 ∷ 125 ∷ 89 ∷ []) bone_bytes bone_ends morph_bytes morph_ends cameras lights shadows properties bone_indices bone_frames translations rotations interpolations morph_indices morph_frames weights) 6)
unfolding computed
with_model_long = tt

pub with_model_zero : T (build_refuses (parts (226 ∷ 142 ∷ 175 ∷ 0 ∷ 116 ∷ 106 ∷ []) bone_bytes bone_ends morph_bytes morph_ends cameras lights shadows properties bone_indices bone_frames translations rotations interpolations morph_indices morph_frames weights) 6)
unfolding computed
with_model_zero = tt

pub with_model_not_good : T (build_refuses (parts (159 ∷ 103 ∷ 179 ∷ 197 ∷ 95 ∷ 205 ∷ 252 ∷ []) bone_bytes bone_ends morph_bytes morph_ends cameras lights shadows properties bone_indices bone_frames translations rotations interpolations morph_indices morph_frames weights) 7)
unfolding computed
with_model_not_good = tt

pub with_bone_name_long : T (build_refuses (parts model (65 ∷ 131 ∷ 65 ∷ 177 ∷ 186 ∷ 56 ∷ 200 ∷ 36 ∷ 122 ∷ 176 ∷ 190 ∷ 38 ∷ 225 ∷ 252 ∷ 57 ∷ 124 ∷ 132 ∷ 92 ∷ 229 ∷ 209 ∷ 103 ∷ 209 ∷ []) (1 ∷ 4 ∷ 22 ∷ []) morph_bytes morph_ends cameras lights shadows properties bone_indices bone_frames translations rotations interpolations morph_indices morph_frames weights) 6)
unfolding computed
with_bone_name_long = tt

pub with_bone_name_zero : T (build_refuses (parts model (65 ∷ 131 ∷ 65 ∷ 177 ∷ 144 ∷ 106 ∷ 192 ∷ 0 ∷ 202 ∷ 193 ∷ []) (1 ∷ 4 ∷ 10 ∷ []) morph_bytes morph_ends cameras lights shadows properties bone_indices bone_frames translations rotations interpolations morph_indices morph_frames weights) 6)
unfolding computed
with_bone_name_zero = tt

pub with_bone_name_not_good : T (build_refuses (parts model (65 ∷ 131 ∷ 65 ∷ 177 ∷ 244 ∷ 221 ∷ 71 ∷ 229 ∷ 69 ∷ 41 ∷ 194 ∷ 151 ∷ 92 ∷ 145 ∷ 201 ∷ 229 ∷ 153 ∷ 71 ∷ 131 ∷ []) (1 ∷ 4 ∷ 19 ∷ []) morph_bytes morph_ends cameras lights shadows properties bone_indices bone_frames translations rotations interpolations morph_indices morph_frames weights) 7)
unfolding computed
with_bone_name_not_good = tt

pub with_morph_name_long : T (build_refuses (parts model bone_bytes bone_ends (68 ∷ 141 ∷ 191 ∷ 226 ∷ 241 ∷ 148 ∷ 230 ∷ 90 ∷ 142 ∷ 219 ∷ 137 ∷ 79 ∷ 138 ∷ 151 ∷ 246 ∷ 144 ∷ 252 ∷ 69 ∷ 176 ∷ []) (1 ∷ 19 ∷ []) cameras lights shadows properties bone_indices bone_frames translations rotations interpolations morph_indices morph_frames weights) 6)
unfolding computed
with_morph_name_long = tt

pub with_morph_name_zero : T (build_refuses (parts model bone_bytes bone_ends (68 ∷ 129 ∷ 228 ∷ 0 ∷ 140 ∷ 168 ∷ 157 ∷ 137 ∷ []) (1 ∷ 8 ∷ []) cameras lights shadows properties bone_indices bone_frames translations rotations interpolations morph_indices morph_frames weights) 6)
unfolding computed
with_morph_name_zero = tt

pub with_morph_name_not_good : T (build_refuses (parts model bone_bytes bone_ends (68 ∷ 233 ∷ 64 ∷ 129 ∷ []) (1 ∷ 4 ∷ []) cameras lights shadows properties bone_indices bone_frames translations rotations interpolations morph_indices morph_frames weights) 7)
unfolding computed
with_morph_name_not_good = tt

pub with_ik_name_not_good : T (build_refuses (parts model bone_bytes bone_ends morph_bytes morph_ends cameras lights shadows ((112 ∷ 17 ∷ 1 ∷ 0 ∷ 255 ∷ 1 ∷ 0 ∷ 0 ∷ 0 ∷ 75 ∷ 0 ∷ []) ++ replicate 18 88 ++ (128 ∷ 47 ∷ 11 ∷ 0 ∷ 0 ∷ 255 ∷ 1 ∷ 0 ∷ 0 ∷ 0 ∷ 176 ∷ 142 ∷ 232 ∷ 118 ∷ 86 ∷ 35 ∷ 234 ∷ 72 ∷ 252 ∷ []) ++ replicate 11 0 ++ (128 ∷ [])) bone_indices bone_frames translations rotations interpolations morph_indices morph_frames weights) 7)
unfolding computed
with_ik_name_not_good = tt

pub with_camera_float : T (build_refuses (parts model bone_bytes bone_ends morph_bytes morph_ends ((5 ∷ []) ++ replicate 6 0 ++ (192 ∷ 0 ∷ 0 ∷ 0 ∷ 63 ∷ 0 ∷ 0 ∷ 128 ∷ 127 ∷ 1 ∷ []) ++ replicate 5 0 ++ (128 ∷ 63 ∷ 0 ∷ 0 ∷ 0 ∷ 192 ∷ 0 ∷ 0 ∷ 0 ∷ 63 ∷ []) ++ counting 1 24 ++ (45 ∷ 0 ∷ 0 ∷ 0 ∷ 2 ∷ [])) lights shadows properties bone_indices bone_frames translations rotations interpolations morph_indices morph_frames weights) 8)
unfolding computed
with_camera_float = tt

pub with_light_float : T (build_refuses (parts model bone_bytes bone_ends morph_bytes morph_ends cameras ((4 ∷ []) ++ replicate 5 0 ++ (128 ∷ 63 ∷ 0 ∷ 0 ∷ 0 ∷ 192 ∷ 0 ∷ 0 ∷ 128 ∷ 127 ∷ 255 ∷ 255 ∷ 127 ∷ 127 ∷ 1 ∷ []) ++ replicate 5 0 ++ (128 ∷ 63 ∷ [])) shadows properties bone_indices bone_frames translations rotations interpolations morph_indices morph_frames weights) 8)
unfolding computed
with_light_float = tt

pub with_self_shadow_float : T (build_refuses (parts model bone_bytes bone_ends morph_bytes morph_ends cameras lights (3 ∷ 0 ∷ 0 ∷ 0 ∷ 2 ∷ 0 ∷ 0 ∷ 128 ∷ 255 ∷ []) properties bone_indices bone_frames translations rotations interpolations morph_indices morph_frames weights) 9)
unfolding computed
with_self_shadow_float = tt

pub with_self_shadow_mode : T (build_refuses (parts model bone_bytes bone_ends morph_bytes morph_ends cameras lights (3 ∷ 0 ∷ 0 ∷ 0 ∷ 4 ∷ 0 ∷ 0 ∷ 0 ∷ 192 ∷ []) properties bone_indices bone_frames translations rotations interpolations morph_indices morph_frames weights) 9)
unfolding computed
with_self_shadow_mode = tt

pub with_bone_indices : T (build_refuses (parts model bone_bytes bone_ends morph_bytes morph_ends cameras lights shadows properties (1 ∷ []) bone_frames translations rotations interpolations morph_indices morph_frames weights) 10)
unfolding computed
with_bone_indices = tt

pub with_bone_frames : T (build_refuses (parts model bone_bytes bone_ends morph_bytes morph_ends cameras lights shadows properties bone_indices (8 ∷ []) translations rotations interpolations morph_indices morph_frames weights) 10)
unfolding computed
with_bone_frames = tt

pub with_bone_translations : T (build_refuses (parts model bone_bytes bone_ends morph_bytes morph_ends cameras lights shadows properties bone_indices bone_frames (0x3f800000 ∷ 0xc0000000 ∷ 0x3f000000 ∷ 0x7f7fffff ∷ 1 ∷ []) rotations interpolations morph_indices morph_frames weights) 10)
unfolding computed
with_bone_translations = tt

pub with_bone_rotations : T (build_refuses (parts model bone_bytes bone_ends morph_bytes morph_ends cameras lights shadows properties bone_indices bone_frames translations (0x3f000000 ∷ 0x7f7fffff ∷ 1 ∷ 0x3f800000 ∷ 0xc0000000 ∷ 0x3f000000 ∷ 0x7f7fffff ∷ 1 ∷ 0 ∷ []) interpolations morph_indices morph_frames weights) 10)
unfolding computed
with_bone_rotations = tt

pub with_bone_interpolations : T (build_refuses (parts model bone_bytes bone_ends morph_bytes morph_ends cameras lights shadows properties bone_indices bone_frames translations rotations (counting 1 128 ++ (0 ∷ [])) morph_indices morph_frames weights) 10)
unfolding computed
with_bone_interpolations = tt

pub with_morph_indices : T (build_refuses (parts model bone_bytes bone_ends morph_bytes morph_ends cameras lights shadows properties bone_indices bone_frames translations rotations interpolations (0 ∷ 0 ∷ []) morph_frames weights) 10)
unfolding computed
with_morph_indices = tt

pub with_morph_frames : T (build_refuses (parts model bone_bytes bone_ends morph_bytes morph_ends cameras lights shadows properties bone_indices bone_frames translations rotations interpolations morph_indices [] weights) 10)
unfolding computed
with_morph_frames = tt

pub with_morph_weights : T (build_refuses (parts model bone_bytes bone_ends morph_bytes morph_ends cameras lights shadows properties bone_indices bone_frames translations rotations interpolations morph_indices morph_frames []) 10)
unfolding computed
with_morph_weights = tt

pub with_bone_index : T (build_refuses (parts model bone_bytes bone_ends morph_bytes morph_ends cameras lights shadows properties (0xffffffff ∷ 0 ∷ []) bone_frames translations rotations interpolations morph_indices morph_frames weights) 12)
unfolding computed
with_bone_index = tt

pub with_bone_float : T (build_refuses (parts model bone_bytes bone_ends morph_bytes morph_ends cameras lights shadows properties bone_indices bone_frames translations (0x3f000000 ∷ 0x7f7fffff ∷ 1 ∷ 0xff800000 ∷ 0xc0000000 ∷ 0x3f000000 ∷ 0x7f7fffff ∷ 1 ∷ []) interpolations morph_indices morph_frames weights) 8)
unfolding computed
with_bone_float = tt

pub with_morph_index : T (build_refuses (parts model bone_bytes bone_ends morph_bytes morph_ends cameras lights shadows properties bone_indices bone_frames translations rotations interpolations (0xffffffff ∷ []) morph_frames weights) 12)
unfolding computed
with_morph_index = tt

pub with_morph_float : T (build_refuses (parts model bone_bytes bone_ends morph_bytes morph_ends cameras lights shadows properties bone_indices bone_frames translations rotations interpolations morph_indices morph_frames (0xffa2335a ∷ [])) 8)
unfolding computed
with_morph_float = tt

pub with_model_long_and_bone_name_not_good : T (build_refuses (parts (233 ∷ 210 ∷ 140 ∷ 248 ∷ 137 ∷ 113 ∷ 247 ∷ 180 ∷ 141 ∷ 167 ∷ 202 ∷ 93 ∷ 73 ∷ 245 ∷ 239 ∷ 154 ∷ 181 ∷ 84 ∷ 225 ∷ 192 ∷ 61 ∷ 216 ∷ 90 ∷ []) (65 ∷ 131 ∷ 65 ∷ 177 ∷ 144 ∷ 86 ∷ 31 ∷ 90 ∷ 252 ∷ []) (1 ∷ 4 ∷ 9 ∷ []) morph_bytes morph_ends cameras lights shadows properties bone_indices bone_frames translations rotations interpolations morph_indices morph_frames weights) 6)
unfolding computed
with_model_long_and_bone_name_not_good = tt

pub with_model_zero_and_self_shadow_float : T (build_refuses (parts (0 ∷ 79 ∷ 152 ∷ 200 ∷ 136 ∷ 196 ∷ 71 ∷ []) bone_bytes bone_ends morph_bytes morph_ends cameras lights (3 ∷ 0 ∷ 0 ∷ 0 ∷ 2 ∷ 0 ∷ 0 ∷ 128 ∷ 127 ∷ []) properties bone_indices bone_frames translations rotations interpolations morph_indices morph_frames weights) 6)
unfolding computed
with_model_zero_and_self_shadow_float = tt

pub with_model_not_good_and_morph_indices : T (build_refuses (parts (234 ∷ 79 ∷ 253 ∷ []) bone_bytes bone_ends morph_bytes morph_ends cameras lights shadows properties bone_indices bone_frames translations rotations interpolations (0 ∷ 0 ∷ []) morph_frames weights) 7)
unfolding computed
with_model_not_good_and_morph_indices = tt

pub with_bone_name_long_and_model_long : T (build_refuses (parts (52 ∷ 247 ∷ 111 ∷ 221 ∷ 147 ∷ 241 ∷ 226 ∷ 100 ∷ 5 ∷ 203 ∷ 227 ∷ 235 ∷ 187 ∷ 24 ∷ 61 ∷ 250 ∷ 113 ∷ 145 ∷ 138 ∷ 201 ∷ 73 ∷ []) (65 ∷ 131 ∷ 65 ∷ 177 ∷ 75 ∷ 230 ∷ 109 ∷ 38 ∷ 102 ∷ 216 ∷ 150 ∷ 150 ∷ 58 ∷ 232 ∷ 77 ∷ 226 ∷ 193 ∷ 225 ∷ 78 ∷ 118 ∷ []) (1 ∷ 4 ∷ 20 ∷ []) morph_bytes morph_ends cameras lights shadows properties bone_indices bone_frames translations rotations interpolations morph_indices morph_frames weights) 6)
unfolding computed
with_bone_name_long_and_model_long = tt

pub with_bone_name_zero_and_morph_name_zero : T (build_refuses (parts model (65 ∷ 131 ∷ 65 ∷ 177 ∷ 0 ∷ 159 ∷ 167 ∷ 241 ∷ 71 ∷ 175 ∷ 110 ∷ 31 ∷ 45 ∷ 148 ∷ 199 ∷ 251 ∷ 134 ∷ 67 ∷ []) (1 ∷ 4 ∷ 18 ∷ []) (68 ∷ 140 ∷ 73 ∷ 197 ∷ 0 ∷ 222 ∷ 237 ∷ 170 ∷ 30 ∷ []) (1 ∷ 9 ∷ []) cameras lights shadows properties bone_indices bone_frames translations rotations interpolations morph_indices morph_frames weights) 6)
unfolding computed
with_bone_name_zero_and_morph_name_zero = tt

pub with_bone_name_not_good_and_bone_indices : T (build_refuses (parts model (65 ∷ 131 ∷ 65 ∷ 177 ∷ 225 ∷ 97 ∷ 182 ∷ 131 ∷ []) (1 ∷ 4 ∷ 8 ∷ []) morph_bytes morph_ends cameras lights shadows properties (1 ∷ 0 ∷ 0 ∷ []) bone_frames translations rotations interpolations morph_indices morph_frames weights) 7)
unfolding computed
with_bone_name_not_good_and_bone_indices = tt

pub with_morph_name_long_and_morph_weights : T (build_refuses (parts model bone_bytes bone_ends (68 ∷ 91 ∷ 207 ∷ 137 ∷ 76 ∷ 231 ∷ 176 ∷ 127 ∷ 20 ∷ 225 ∷ 197 ∷ 227 ∷ 110 ∷ 164 ∷ 244 ∷ 195 ∷ 80 ∷ []) (1 ∷ 17 ∷ []) cameras lights shadows properties bone_indices bone_frames translations rotations interpolations morph_indices morph_frames (0x3f000000 ∷ 0 ∷ [])) 6)
unfolding computed
with_morph_name_long_and_morph_weights = tt

pub with_morph_name_zero_and_model_not_good : T (build_refuses (parts (151 ∷ 161 ∷ 64 ∷ 120 ∷ 243 ∷ 243 ∷ 228 ∷ 87 ∷ 1 ∷ 142 ∷ 181 ∷ 142 ∷ 146 ∷ 160 ∷ []) bone_bytes bone_ends (68 ∷ 238 ∷ 166 ∷ 110 ∷ 138 ∷ 121 ∷ 32 ∷ 0 ∷ 202 ∷ 181 ∷ 198 ∷ 51 ∷ 78 ∷ []) (1 ∷ 13 ∷ []) cameras lights shadows properties bone_indices bone_frames translations rotations interpolations morph_indices morph_frames weights) 7)
unfolding computed
with_morph_name_zero_and_model_not_good = tt

pub with_morph_name_not_good_and_ik_name_not_good : T (build_refuses (parts model bone_bytes bone_ends (68 ∷ 153 ∷ 122 ∷ 200 ∷ 200 ∷ 80 ∷ 223 ∷ 113 ∷ 91 ∷ 129 ∷ 115 ∷ 142 ∷ 191 ∷ 74 ∷ 255 ∷ []) (1 ∷ 15 ∷ []) cameras lights shadows ((112 ∷ 17 ∷ 1 ∷ 0 ∷ 255 ∷ 1 ∷ 0 ∷ 0 ∷ 0 ∷ 75 ∷ 0 ∷ []) ++ replicate 18 88 ++ (128 ∷ 125 ∷ 9 ∷ 0 ∷ 0 ∷ 0 ∷ 1 ∷ 0 ∷ 0 ∷ 0 ∷ 187 ∷ 214 ∷ 205 ∷ 241 ∷ 156 ∷ 145 ∷ 74 ∷ 221 ∷ 237 ∷ 171 ∷ 206 ∷ 237 ∷ 96 ∷ 131 ∷ 127 ∷ []) ++ replicate 5 0 ++ (128 ∷ [])) bone_indices bone_frames translations rotations interpolations morph_indices morph_frames weights) 7)
unfolding computed
with_morph_name_not_good_and_ik_name_not_good = tt

pub with_ik_name_not_good_and_bone_translations : T (build_refuses (parts model bone_bytes bone_ends morph_bytes morph_ends cameras lights shadows ((112 ∷ 17 ∷ 1 ∷ 0 ∷ 255 ∷ 1 ∷ 0 ∷ 0 ∷ 0 ∷ 75 ∷ 0 ∷ []) ++ replicate 18 88 ++ (128 ∷ 31 ∷ 14 ∷ 0 ∷ 0 ∷ 255 ∷ 1 ∷ 0 ∷ 0 ∷ 0 ∷ 142 ∷ 221 ∷ 111 ∷ 129 ∷ []) ++ replicate 17 0) bone_indices bone_frames (0x3f800000 ∷ 0xc0000000 ∷ 0x3f000000 ∷ 0x7f7fffff ∷ 1 ∷ []) rotations interpolations morph_indices morph_frames weights) 7)
unfolding computed
with_ik_name_not_good_and_bone_translations = tt

pub with_camera_float_and_bone_float : T (build_refuses (parts model bone_bytes bone_ends morph_bytes morph_ends ((5 ∷ 0 ∷ 0 ∷ 0 ∷ 134 ∷ 146 ∷ 196 ∷ 127 ∷ 0 ∷ 0 ∷ 0 ∷ 63 ∷ 255 ∷ 255 ∷ 127 ∷ 127 ∷ 1 ∷ []) ++ replicate 5 0 ++ (128 ∷ 63 ∷ 0 ∷ 0 ∷ 0 ∷ 192 ∷ 0 ∷ 0 ∷ 0 ∷ 63 ∷ []) ++ counting 1 24 ++ (45 ∷ 0 ∷ 0 ∷ 0 ∷ 2 ∷ [])) lights shadows properties bone_indices bone_frames translations (0x3f000000 ∷ 0x7f7fffff ∷ 1 ∷ 0x7fc00000 ∷ 0xc0000000 ∷ 0x3f000000 ∷ 0x7f7fffff ∷ 1 ∷ []) interpolations morph_indices morph_frames weights) 8)
unfolding computed
with_camera_float_and_bone_float = tt

pub with_light_float_and_bone_name_zero : T (build_refuses (parts model (65 ∷ 131 ∷ 65 ∷ 177 ∷ 106 ∷ 0 ∷ []) (1 ∷ 4 ∷ 6 ∷ []) morph_bytes morph_ends cameras ((4 ∷ []) ++ replicate 5 0 ++ (128 ∷ 63 ∷ 0 ∷ 0 ∷ 0 ∷ 192 ∷ 0 ∷ 0 ∷ 0 ∷ 63 ∷ 255 ∷ 255 ∷ 127 ∷ 127 ∷ 1 ∷ []) ++ replicate 5 0 ++ (192 ∷ 127 ∷ [])) shadows properties bone_indices bone_frames translations rotations interpolations morph_indices morph_frames weights) 6)
unfolding computed
with_light_float_and_bone_name_zero = tt

pub with_self_shadow_float_and_light_float : T (build_refuses (parts model bone_bytes bone_ends morph_bytes morph_ends cameras ((4 ∷ []) ++ replicate 5 0 ++ (128 ∷ 63 ∷ 0 ∷ 0 ∷ 0 ∷ 192 ∷ 0 ∷ 0 ∷ 0 ∷ 63 ∷ 0 ∷ 0 ∷ 128 ∷ 127 ∷ 1 ∷ []) ++ replicate 5 0 ++ (128 ∷ 63 ∷ [])) (3 ∷ 0 ∷ 0 ∷ 0 ∷ 2 ∷ 136 ∷ 46 ∷ 163 ∷ 127 ∷ []) properties bone_indices bone_frames translations rotations interpolations morph_indices morph_frames weights) 8)
unfolding computed
with_self_shadow_float_and_light_float = tt

pub with_self_shadow_mode_and_bone_interpolations : T (build_refuses (parts model bone_bytes bone_ends morph_bytes morph_ends cameras lights (3 ∷ 0 ∷ 0 ∷ 0 ∷ 3 ∷ 0 ∷ 0 ∷ 0 ∷ 192 ∷ []) properties bone_indices bone_frames translations rotations (counting 1 128 ++ (0 ∷ [])) morph_indices morph_frames weights) 9)
unfolding computed
with_self_shadow_mode_and_bone_interpolations = tt

pub with_bone_indices_and_morph_float : T (build_refuses (parts model bone_bytes bone_ends morph_bytes morph_ends cameras lights shadows properties (1 ∷ []) bone_frames translations rotations interpolations morph_indices morph_frames (0x7fc00000 ∷ [])) 10)
unfolding computed
with_bone_indices_and_morph_float = tt

pub with_bone_frames_and_morph_name_long : T (build_refuses (parts model bone_bytes bone_ends (68 ∷ 148 ∷ 187 ∷ 207 ∷ 231 ∷ 86 ∷ 182 ∷ 226 ∷ 216 ∷ 43 ∷ 240 ∷ 200 ∷ 57 ∷ 130 ∷ 164 ∷ 228 ∷ 197 ∷ 193 ∷ 77 ∷ []) (1 ∷ 19 ∷ []) cameras lights shadows properties bone_indices (8 ∷ 6 ∷ 0 ∷ []) translations rotations interpolations morph_indices morph_frames weights) 6)
unfolding computed
with_bone_frames_and_morph_name_long = tt

pub with_bone_translations_and_self_shadow_mode : T (build_refuses (parts model bone_bytes bone_ends morph_bytes morph_ends cameras lights (3 ∷ 0 ∷ 0 ∷ 0 ∷ 128 ∷ 0 ∷ 0 ∷ 0 ∷ 192 ∷ []) properties bone_indices bone_frames (0x3f800000 ∷ 0xc0000000 ∷ 0x3f000000 ∷ 0x7f7fffff ∷ 1 ∷ 0x3f800000 ∷ 0 ∷ []) rotations interpolations morph_indices morph_frames weights) 9)
unfolding computed
with_bone_translations_and_self_shadow_mode = tt

pub with_bone_rotations_and_morph_frames : T (build_refuses (parts model bone_bytes bone_ends morph_bytes morph_ends cameras lights shadows properties bone_indices bone_frames translations (0x3f000000 ∷ 0x7f7fffff ∷ 1 ∷ 0x3f800000 ∷ 0xc0000000 ∷ 0x3f000000 ∷ 0x7f7fffff ∷ 1 ∷ 0 ∷ []) interpolations morph_indices [] weights) 10)
unfolding computed
with_bone_rotations_and_morph_frames = tt

pub with_bone_interpolations_and_model_zero : T (build_refuses (parts (168 ∷ 93 ∷ 246 ∷ 107 ∷ 149 ∷ 228 ∷ 141 ∷ 0 ∷ 152 ∷ 240 ∷ 198 ∷ 139 ∷ 117 ∷ []) bone_bytes bone_ends morph_bytes morph_ends cameras lights shadows properties bone_indices bone_frames translations rotations (counting 1 128 ++ (0 ∷ [])) morph_indices morph_frames weights) 6)
unfolding computed
with_bone_interpolations_and_model_zero = tt

pub with_morph_indices_and_morph_name_not_good : T (build_refuses (parts model bone_bytes bone_ends (68 ∷ 42 ∷ 229 ∷ 234 ∷ 245 ∷ 168 ∷ 70 ∷ 142 ∷ 80 ∷ 241 ∷ 98 ∷ 249 ∷ 68 ∷ 224 ∷ 253 ∷ []) (1 ∷ 15 ∷ []) cameras lights shadows properties bone_indices bone_frames translations rotations interpolations (0 ∷ 0 ∷ []) morph_frames weights) 7)
unfolding computed
with_morph_indices_and_morph_name_not_good = tt

pub with_morph_frames_and_bone_frames : T (build_refuses (parts model bone_bytes bone_ends morph_bytes morph_ends cameras lights shadows properties bone_indices (8 ∷ []) translations rotations interpolations morph_indices [] weights) 10)
unfolding computed
with_morph_frames_and_bone_frames = tt

pub with_morph_weights_and_bone_index : T (build_refuses (parts model bone_bytes bone_ends morph_bytes morph_ends cameras lights shadows properties (1002 ∷ 0 ∷ []) bone_frames translations rotations interpolations morph_indices morph_frames []) 10)
unfolding computed
with_morph_weights_and_bone_index = tt

pub with_bone_index_and_bone_name_long : T (build_refuses (parts model (65 ∷ 131 ∷ 65 ∷ 177 ∷ 171 ∷ 195 ∷ 224 ∷ 166 ∷ 9 ∷ 141 ∷ 193 ∷ 71 ∷ 179 ∷ 244 ∷ 113 ∷ 89 ∷ 161 ∷ 17 ∷ 248 ∷ 236 ∷ 69 ∷ []) (1 ∷ 4 ∷ 21 ∷ []) morph_bytes morph_ends cameras lights shadows properties (1 ∷ 0xffffffff ∷ []) bone_frames translations rotations interpolations morph_indices morph_frames weights) 6)
unfolding computed
with_bone_index_and_bone_name_long = tt

pub with_bone_float_and_camera_float : T (build_refuses (parts model bone_bytes bone_ends morph_bytes morph_ends ((5 ∷ []) ++ replicate 6 0 ++ (192 ∷ 0 ∷ 0 ∷ 0 ∷ 63 ∷ 255 ∷ 255 ∷ 127 ∷ 127 ∷ 0 ∷ 0 ∷ 192 ∷ 127 ∷ 0 ∷ 0 ∷ 128 ∷ 63 ∷ 0 ∷ 0 ∷ 0 ∷ 192 ∷ 0 ∷ 0 ∷ 0 ∷ 63 ∷ []) ++ counting 1 24 ++ (45 ∷ 0 ∷ 0 ∷ 0 ∷ 2 ∷ [])) lights shadows properties bone_indices bone_frames (0x3f800000 ∷ 0xc0000000 ∷ 0x3f000000 ∷ 0x7f7fffff ∷ 0x7fc00000 ∷ 0x3f800000 ∷ []) rotations interpolations morph_indices morph_frames weights) 8)
unfolding computed
with_bone_float_and_camera_float = tt

pub with_morph_index_and_bone_rotations : T (build_refuses (parts model bone_bytes bone_ends morph_bytes morph_ends cameras lights shadows properties bone_indices bone_frames translations (0x3f000000 ∷ 0x7f7fffff ∷ 1 ∷ 0x3f800000 ∷ 0xc0000000 ∷ 0x3f000000 ∷ 0x7f7fffff ∷ []) interpolations (2 ∷ []) morph_frames weights) 10)
unfolding computed
with_morph_index_and_bone_rotations = tt

pub with_morph_float_and_morph_index : T (build_refuses (parts model bone_bytes bone_ends morph_bytes morph_ends cameras lights shadows properties bone_indices bone_frames translations rotations interpolations (0xffffffff ∷ []) morph_frames (0x7fc00000 ∷ [])) 12)
unfolding computed
with_morph_float_and_morph_index = tt

pub model_85_40 : T (build_refuses (parts (133 ∷ 64 ∷ []) [] [] [] [] [] [] [] [] [] [] [] [] [] [] [] []) 7)
unfolding computed
model_85_40 = tt

pub model_83_41 : T (builds (parts (131 ∷ 65 ∷ []) [] [] [] [] [] [] [] [] [] [] [] [] [] [] [] []) (take 30 empty ++ (131 ∷ 65 ∷ []) ++ drop 32 empty))
unfolding computed
model_83_41 = tt

pub model_ef_fc : T (build_refuses (parts (239 ∷ 252 ∷ []) [] [] [] [] [] [] [] [] [] [] [] [] [] [] [] []) 7)
unfolding computed
model_ef_fc = tt

pub model_f0_40 : T (builds (parts (240 ∷ 64 ∷ []) [] [] [] [] [] [] [] [] [] [] [] [] [] [] [] []) (take 30 empty ++ (240 ∷ 64 ∷ []) ++ drop 32 empty))
unfolding computed
model_f0_40 = tt

pub model_f9_fc : T (builds (parts (249 ∷ 252 ∷ []) [] [] [] [] [] [] [] [] [] [] [] [] [] [] [] []) (take 30 empty ++ (249 ∷ 252 ∷ []) ++ drop 32 empty))
unfolding computed
model_f9_fc = tt

pub model_fa_40 : T (builds (parts (250 ∷ 64 ∷ []) [] [] [] [] [] [] [] [] [] [] [] [] [] [] [] []) (take 30 empty ++ (250 ∷ 64 ∷ []) ++ drop 32 empty))
unfolding computed
model_fa_40 = tt

pub model_fc_4b : T (builds (parts (252 ∷ 75 ∷ []) [] [] [] [] [] [] [] [] [] [] [] [] [] [] [] []) (take 30 empty ++ (252 ∷ 75 ∷ []) ++ drop 32 empty))
unfolding computed
model_fc_4b = tt

pub model_fc_4c : T (build_refuses (parts (252 ∷ 76 ∷ []) [] [] [] [] [] [] [] [] [] [] [] [] [] [] [] []) 7)
unfolding computed
model_fc_4c = tt

pub bone_85_40 : T (build_refuses (parts [] (133 ∷ 64 ∷ []) (2 ∷ []) [] [] [] [] [] [] (0 ∷ []) (8 ∷ []) (0x3f000000 ∷ 0x3f000000 ∷ 0x3f000000 ∷ []) (replicate 4 0x3f800000) (counting 1 64) [] [] []) 7)
unfolding computed
bone_85_40 = tt

pub bone_83_41 : T (builds (parts [] (131 ∷ 65 ∷ []) (2 ∷ []) [] [] [] [] [] [] (0 ∷ []) (8 ∷ []) (0x3f000000 ∷ 0x3f000000 ∷ 0x3f000000 ∷ []) (replicate 4 0x3f800000) (counting 1 64) [] [] []) (take 50 empty ++ (1 ∷ 0 ∷ 0 ∷ 0 ∷ 131 ∷ 65 ∷ []) ++ replicate 13 0 ++ (8 ∷ []) ++ replicate 6 0 ++ (63 ∷ 0 ∷ 0 ∷ 0 ∷ 63 ∷ 0 ∷ 0 ∷ 0 ∷ 63 ∷ 0 ∷ 0 ∷ 128 ∷ 63 ∷ 0 ∷ 0 ∷ 128 ∷ 63 ∷ 0 ∷ 0 ∷ 128 ∷ 63 ∷ 0 ∷ 0 ∷ 128 ∷ 63 ∷ []) ++ counting 1 64 ++ drop 54 empty))
unfolding computed
bone_83_41 = tt

pub bone_ef_fc : T (build_refuses (parts [] (239 ∷ 252 ∷ []) (2 ∷ []) [] [] [] [] [] [] (0 ∷ []) (8 ∷ []) (0x3f000000 ∷ 0x3f000000 ∷ 0x3f000000 ∷ []) (replicate 4 0x3f800000) (counting 1 64) [] [] []) 7)
unfolding computed
bone_ef_fc = tt

pub bone_f0_40 : T (builds (parts [] (240 ∷ 64 ∷ []) (2 ∷ []) [] [] [] [] [] [] (0 ∷ []) (8 ∷ []) (0x3f000000 ∷ 0x3f000000 ∷ 0x3f000000 ∷ []) (replicate 4 0x3f800000) (counting 1 64) [] [] []) (take 50 empty ++ (1 ∷ 0 ∷ 0 ∷ 0 ∷ 240 ∷ 64 ∷ []) ++ replicate 13 0 ++ (8 ∷ []) ++ replicate 6 0 ++ (63 ∷ 0 ∷ 0 ∷ 0 ∷ 63 ∷ 0 ∷ 0 ∷ 0 ∷ 63 ∷ 0 ∷ 0 ∷ 128 ∷ 63 ∷ 0 ∷ 0 ∷ 128 ∷ 63 ∷ 0 ∷ 0 ∷ 128 ∷ 63 ∷ 0 ∷ 0 ∷ 128 ∷ 63 ∷ []) ++ counting 1 64 ++ drop 54 empty))
unfolding computed
bone_f0_40 = tt

pub bone_f9_fc : T (builds (parts [] (249 ∷ 252 ∷ []) (2 ∷ []) [] [] [] [] [] [] (0 ∷ []) (8 ∷ []) (0x3f000000 ∷ 0x3f000000 ∷ 0x3f000000 ∷ []) (replicate 4 0x3f800000) (counting 1 64) [] [] []) (take 50 empty ++ (1 ∷ 0 ∷ 0 ∷ 0 ∷ 249 ∷ 252 ∷ []) ++ replicate 13 0 ++ (8 ∷ []) ++ replicate 6 0 ++ (63 ∷ 0 ∷ 0 ∷ 0 ∷ 63 ∷ 0 ∷ 0 ∷ 0 ∷ 63 ∷ 0 ∷ 0 ∷ 128 ∷ 63 ∷ 0 ∷ 0 ∷ 128 ∷ 63 ∷ 0 ∷ 0 ∷ 128 ∷ 63 ∷ 0 ∷ 0 ∷ 128 ∷ 63 ∷ []) ++ counting 1 64 ++ drop 54 empty))
unfolding computed
bone_f9_fc = tt

pub bone_fa_40 : T (builds (parts [] (250 ∷ 64 ∷ []) (2 ∷ []) [] [] [] [] [] [] (0 ∷ []) (8 ∷ []) (0x3f000000 ∷ 0x3f000000 ∷ 0x3f000000 ∷ []) (replicate 4 0x3f800000) (counting 1 64) [] [] []) (take 50 empty ++ (1 ∷ 0 ∷ 0 ∷ 0 ∷ 250 ∷ 64 ∷ []) ++ replicate 13 0 ++ (8 ∷ []) ++ replicate 6 0 ++ (63 ∷ 0 ∷ 0 ∷ 0 ∷ 63 ∷ 0 ∷ 0 ∷ 0 ∷ 63 ∷ 0 ∷ 0 ∷ 128 ∷ 63 ∷ 0 ∷ 0 ∷ 128 ∷ 63 ∷ 0 ∷ 0 ∷ 128 ∷ 63 ∷ 0 ∷ 0 ∷ 128 ∷ 63 ∷ []) ++ counting 1 64 ++ drop 54 empty))
unfolding computed
bone_fa_40 = tt

pub bone_fc_4b : T (builds (parts [] (252 ∷ 75 ∷ []) (2 ∷ []) [] [] [] [] [] [] (0 ∷ []) (8 ∷ []) (0x3f000000 ∷ 0x3f000000 ∷ 0x3f000000 ∷ []) (replicate 4 0x3f800000) (counting 1 64) [] [] []) (take 50 empty ++ (1 ∷ 0 ∷ 0 ∷ 0 ∷ 252 ∷ 75 ∷ []) ++ replicate 13 0 ++ (8 ∷ []) ++ replicate 6 0 ++ (63 ∷ 0 ∷ 0 ∷ 0 ∷ 63 ∷ 0 ∷ 0 ∷ 0 ∷ 63 ∷ 0 ∷ 0 ∷ 128 ∷ 63 ∷ 0 ∷ 0 ∷ 128 ∷ 63 ∷ 0 ∷ 0 ∷ 128 ∷ 63 ∷ 0 ∷ 0 ∷ 128 ∷ 63 ∷ []) ++ counting 1 64 ++ drop 54 empty))
unfolding computed
bone_fc_4b = tt

pub bone_fc_4c : T (build_refuses (parts [] (252 ∷ 76 ∷ []) (2 ∷ []) [] [] [] [] [] [] (0 ∷ []) (8 ∷ []) (0x3f000000 ∷ 0x3f000000 ∷ 0x3f000000 ∷ []) (replicate 4 0x3f800000) (counting 1 64) [] [] []) 7)
unfolding computed
bone_fc_4c = tt

pub morph_85_40 : T (build_refuses (parts [] [] [] (133 ∷ 64 ∷ []) (2 ∷ []) [] [] [] [] [] [] [] [] [] morph_indices morph_frames weights) 7)
unfolding computed
morph_85_40 = tt

pub morph_83_41 : T (builds (parts [] [] [] (131 ∷ 65 ∷ []) (2 ∷ []) [] [] [] [] [] [] [] [] [] morph_indices morph_frames weights) (take 54 empty ++ (1 ∷ 0 ∷ 0 ∷ 0 ∷ 131 ∷ 65 ∷ []) ++ replicate 13 0 ++ (9 ∷ []) ++ replicate 6 0 ++ (63 ∷ []) ++ drop 58 empty))
unfolding computed
morph_83_41 = tt

pub morph_ef_fc : T (build_refuses (parts [] [] [] (239 ∷ 252 ∷ []) (2 ∷ []) [] [] [] [] [] [] [] [] [] morph_indices morph_frames weights) 7)
unfolding computed
morph_ef_fc = tt

pub morph_f0_40 : T (builds (parts [] [] [] (240 ∷ 64 ∷ []) (2 ∷ []) [] [] [] [] [] [] [] [] [] morph_indices morph_frames weights) (take 54 empty ++ (1 ∷ 0 ∷ 0 ∷ 0 ∷ 240 ∷ 64 ∷ []) ++ replicate 13 0 ++ (9 ∷ []) ++ replicate 6 0 ++ (63 ∷ []) ++ drop 58 empty))
unfolding computed
morph_f0_40 = tt

pub morph_f9_fc : T (builds (parts [] [] [] (249 ∷ 252 ∷ []) (2 ∷ []) [] [] [] [] [] [] [] [] [] morph_indices morph_frames weights) (take 54 empty ++ (1 ∷ 0 ∷ 0 ∷ 0 ∷ 249 ∷ 252 ∷ []) ++ replicate 13 0 ++ (9 ∷ []) ++ replicate 6 0 ++ (63 ∷ []) ++ drop 58 empty))
unfolding computed
morph_f9_fc = tt

pub morph_fa_40 : T (builds (parts [] [] [] (250 ∷ 64 ∷ []) (2 ∷ []) [] [] [] [] [] [] [] [] [] morph_indices morph_frames weights) (take 54 empty ++ (1 ∷ 0 ∷ 0 ∷ 0 ∷ 250 ∷ 64 ∷ []) ++ replicate 13 0 ++ (9 ∷ []) ++ replicate 6 0 ++ (63 ∷ []) ++ drop 58 empty))
unfolding computed
morph_fa_40 = tt

pub morph_fc_4b : T (builds (parts [] [] [] (252 ∷ 75 ∷ []) (2 ∷ []) [] [] [] [] [] [] [] [] [] morph_indices morph_frames weights) (take 54 empty ++ (1 ∷ 0 ∷ 0 ∷ 0 ∷ 252 ∷ 75 ∷ []) ++ replicate 13 0 ++ (9 ∷ []) ++ replicate 6 0 ++ (63 ∷ []) ++ drop 58 empty))
unfolding computed
morph_fc_4b = tt

pub morph_fc_4c : T (build_refuses (parts [] [] [] (252 ∷ 76 ∷ []) (2 ∷ []) [] [] [] [] [] [] [] [] [] morph_indices morph_frames weights) 7)
unfolding computed
morph_fc_4c = tt

pub ik_state_85_40 : T (build_refuses (parts [] [] [] [] [] [] [] [] ((7 ∷ 0 ∷ 0 ∷ 0 ∷ 1 ∷ 1 ∷ 0 ∷ 0 ∷ 0 ∷ 133 ∷ 64 ∷ 0 ∷ []) ++ replicate 17 88 ++ (1 ∷ [])) [] [] [] [] [] [] [] []) 7)
unfolding computed
ik_state_85_40 = tt

pub ik_state_83_41 : T (builds (parts [] [] [] [] [] [] [] [] ((7 ∷ 0 ∷ 0 ∷ 0 ∷ 1 ∷ 1 ∷ 0 ∷ 0 ∷ 0 ∷ 131 ∷ 65 ∷ 0 ∷ []) ++ replicate 17 88 ++ (1 ∷ [])) [] [] [] [] [] [] [] []) (take 70 empty ++ (1 ∷ 0 ∷ 0 ∷ 0 ∷ 7 ∷ 0 ∷ 0 ∷ 0 ∷ 1 ∷ 1 ∷ 0 ∷ 0 ∷ 0 ∷ 131 ∷ 65 ∷ []) ++ replicate 18 0 ++ (1 ∷ [])))
unfolding computed
ik_state_83_41 = tt

pub ik_state_ef_fc : T (build_refuses (parts [] [] [] [] [] [] [] [] ((7 ∷ 0 ∷ 0 ∷ 0 ∷ 1 ∷ 1 ∷ 0 ∷ 0 ∷ 0 ∷ 239 ∷ 252 ∷ 0 ∷ []) ++ replicate 17 88 ++ (1 ∷ [])) [] [] [] [] [] [] [] []) 7)
unfolding computed
ik_state_ef_fc = tt

pub ik_state_f0_40 : T (builds (parts [] [] [] [] [] [] [] [] ((7 ∷ 0 ∷ 0 ∷ 0 ∷ 1 ∷ 1 ∷ 0 ∷ 0 ∷ 0 ∷ 240 ∷ 64 ∷ 0 ∷ []) ++ replicate 17 88 ++ (1 ∷ [])) [] [] [] [] [] [] [] []) (take 70 empty ++ (1 ∷ 0 ∷ 0 ∷ 0 ∷ 7 ∷ 0 ∷ 0 ∷ 0 ∷ 1 ∷ 1 ∷ 0 ∷ 0 ∷ 0 ∷ 240 ∷ 64 ∷ []) ++ replicate 18 0 ++ (1 ∷ [])))
unfolding computed
ik_state_f0_40 = tt

pub ik_state_f9_fc : T (builds (parts [] [] [] [] [] [] [] [] ((7 ∷ 0 ∷ 0 ∷ 0 ∷ 1 ∷ 1 ∷ 0 ∷ 0 ∷ 0 ∷ 249 ∷ 252 ∷ 0 ∷ []) ++ replicate 17 88 ++ (1 ∷ [])) [] [] [] [] [] [] [] []) (take 70 empty ++ (1 ∷ 0 ∷ 0 ∷ 0 ∷ 7 ∷ 0 ∷ 0 ∷ 0 ∷ 1 ∷ 1 ∷ 0 ∷ 0 ∷ 0 ∷ 249 ∷ 252 ∷ []) ++ replicate 18 0 ++ (1 ∷ [])))
unfolding computed
ik_state_f9_fc = tt

pub ik_state_fa_40 : T (builds (parts [] [] [] [] [] [] [] [] ((7 ∷ 0 ∷ 0 ∷ 0 ∷ 1 ∷ 1 ∷ 0 ∷ 0 ∷ 0 ∷ 250 ∷ 64 ∷ 0 ∷ []) ++ replicate 17 88 ++ (1 ∷ [])) [] [] [] [] [] [] [] []) (take 70 empty ++ (1 ∷ 0 ∷ 0 ∷ 0 ∷ 7 ∷ 0 ∷ 0 ∷ 0 ∷ 1 ∷ 1 ∷ 0 ∷ 0 ∷ 0 ∷ 250 ∷ 64 ∷ []) ++ replicate 18 0 ++ (1 ∷ [])))
unfolding computed
ik_state_fa_40 = tt

pub ik_state_fc_4b : T (builds (parts [] [] [] [] [] [] [] [] ((7 ∷ 0 ∷ 0 ∷ 0 ∷ 1 ∷ 1 ∷ 0 ∷ 0 ∷ 0 ∷ 252 ∷ 75 ∷ 0 ∷ []) ++ replicate 17 88 ++ (1 ∷ [])) [] [] [] [] [] [] [] []) (take 70 empty ++ (1 ∷ 0 ∷ 0 ∷ 0 ∷ 7 ∷ 0 ∷ 0 ∷ 0 ∷ 1 ∷ 1 ∷ 0 ∷ 0 ∷ 0 ∷ 252 ∷ 75 ∷ []) ++ replicate 18 0 ++ (1 ∷ [])))
unfolding computed
ik_state_fc_4b = tt

pub ik_state_fc_4c : T (build_refuses (parts [] [] [] [] [] [] [] [] ((7 ∷ 0 ∷ 0 ∷ 0 ∷ 1 ∷ 1 ∷ 0 ∷ 0 ∷ 0 ∷ 252 ∷ 76 ∷ 0 ∷ []) ++ replicate 17 88 ++ (1 ∷ [])) [] [] [] [] [] [] [] []) 7)
unfolding computed
ik_state_fc_4c = tt
