-- The tables of the byte field, and their rules, each tested over the whole table.
use Rattle.std.specs.Prelude.{◌≡◌, ℕ, zero, suc, ◌+◌, ◌-◌, ◌*◌, ◌/◌, ◌%◌, ◌<◌, ◌≤◌, true, cond, T, ltb, ◌⊎◌, List, [], ◌∷◌, ◌==◌, bit_xor, nat_eq, nat_lt, slice_index, slice_index_or, refl}
use Rattle.std.proofs.Common.{sym, ap, ◌∙◌, inl, inr, arith, eqb→eq, lit≤}
use Rattle.std.proofs.lemmas.Bool.{ltb-true, lt-ltb, le-ltb, eqb-true, cases_lt, cond-true, cond-false, and_parts}
use Rattle.fields.specs.Bytes.{bilinear, solves_byte, byte_basis, power, Log}
use Rattle.fields.specs.Tests.{every, every_at, truly}

abbrev pub exps : List ℕ
exps = 1 ∷ 18 ∷ 27 ∷ 133 ∷ 23 ∷ 65 ∷ 217 ∷ 32 ∷ 28 ∷ 252 ∷ 102 ∷ 188 ∷ 173 ∷ 135 ∷ 52 ∷ 108 ∷ 19 ∷ 9 ∷ 158 ∷ 146 ∷ 86 ∷ 152 ∷ 249 ∷ 60 ∷ 224 ∷ 154 ∷ 218 ∷ 17 ∷ 42 ∷ 179 ∷ 88 ∷ 127 ∷ 26 ∷ 151 ∷ 12 ∷ 196 ∷ 206 ∷ 97 ∷ 197 ∷ 220 ∷ 122 ∷ 64 ∷ 203 ∷ 59 ∷ 153 ∷ 235 ∷ 39 ∷ 101 ∷ 141 ∷ 155 ∷ 200 ∷ 10 ∷ 175 ∷ 164 ∷ 25 ∷ 166 ∷ 58 ∷ 139 ∷ 240 ∷ 162 ∷ 114 ∷ 204 ∷ 66 ∷ 232 ∷ 22 ∷ 83 ∷ 194 ∷ 165 ∷ 11 ∷ 189 ∷ 191 ∷ 156 ∷ 177 ∷ 123 ∷ 82 ∷ 208 ∷ 190 ∷ 142 ∷ 170 ∷ 254 ∷ 69 ∷ 145 ∷ 103 ∷ 174 ∷ 182 ∷ 2 ∷ 35 ∷ 45 ∷ 202 ∷ 41 ∷ 130 ∷ 110 ∷ 48 ∷ 36 ∷ 84 ∷ 187 ∷ 212 ∷ 246 ∷ 201 ∷ 24 ∷ 180 ∷ 33 ∷ 14 ∷ 231 ∷ 227 ∷ 171 ∷ 236 ∷ 94 ∷ 20 ∷ 112 ∷ 239 ∷ 111 ∷ 34 ∷ 63 ∷ 209 ∷ 172 ∷ 149 ∷ 47 ∷ 233 ∷ 4 ∷ 72 ∷ 71 ∷ 178 ∷ 74 ∷ 100 ∷ 159 ∷ 128 ∷ 77 ∷ 29 ∷ 238 ∷ 125 ∷ 57 ∷ 186 ∷ 198 ∷ 237 ∷ 76 ∷ 15 ∷ 245 ∷ 248 ∷ 46 ∷ 251 ∷ 31 ∷ 205 ∷ 80 ∷ 243 ∷ 147 ∷ 68 ∷ 131 ∷ 124 ∷ 43 ∷ 161 ∷ 67 ∷ 250 ∷ 13 ∷ 214 ∷ 213 ∷ 228 ∷ 210 ∷ 157 ∷ 163 ∷ 96 ∷ 215 ∷ 199 ∷ 255 ∷ 87 ∷ 138 ∷ 226 ∷ 185 ∷ 247 ∷ 219 ∷ 3 ∷ 49 ∷ 54 ∷ 79 ∷ 62 ∷ 195 ∷ 183 ∷ 16 ∷ 56 ∷ 168 ∷ 221 ∷ 104 ∷ 91 ∷ 78 ∷ 44 ∷ 216 ∷ 50 ∷ 7 ∷ 121 ∷ 113 ∷ 253 ∷ 116 ∷ 167 ∷ 40 ∷ 144 ∷ 117 ∷ 181 ∷ 51 ∷ 21 ∷ 98 ∷ 244 ∷ 234 ∷ 53 ∷ 126 ∷ 8 ∷ 140 ∷ 137 ∷ 211 ∷ 143 ∷ 184 ∷ 229 ∷ 192 ∷ 134 ∷ 38 ∷ 119 ∷ 150 ∷ 30 ∷ 223 ∷ 75 ∷ 118 ∷ 132 ∷ 5 ∷ 90 ∷ 92 ∷ 55 ∷ 93 ∷ 37 ∷ 70 ∷ 160 ∷ 81 ∷ 225 ∷ 136 ∷ 193 ∷ 148 ∷ 61 ∷ 242 ∷ 129 ∷ 95 ∷ 6 ∷ 107 ∷ 106 ∷ 120 ∷ 99 ∷ 230 ∷ 241 ∷ 176 ∷ 105 ∷ 73 ∷ 85 ∷ 169 ∷ 207 ∷ 115 ∷ 222 ∷ 89 ∷ 109 ∷ 1 ∷ 18 ∷ 27 ∷ 133 ∷ 23 ∷ 65 ∷ 217 ∷ 32 ∷ 28 ∷ 252 ∷ 102 ∷ 188 ∷ 173 ∷ 135 ∷ 52 ∷ 108 ∷ 19 ∷ 9 ∷ 158 ∷ 146 ∷ 86 ∷ 152 ∷ 249 ∷ 60 ∷ 224 ∷ 154 ∷ 218 ∷ 17 ∷ 42 ∷ 179 ∷ 88 ∷ 127 ∷ 26 ∷ 151 ∷ 12 ∷ 196 ∷ 206 ∷ 97 ∷ 197 ∷ 220 ∷ 122 ∷ 64 ∷ 203 ∷ 59 ∷ 153 ∷ 235 ∷ 39 ∷ 101 ∷ 141 ∷ 155 ∷ 200 ∷ 10 ∷ 175 ∷ 164 ∷ 25 ∷ 166 ∷ 58 ∷ 139 ∷ 240 ∷ 162 ∷ 114 ∷ 204 ∷ 66 ∷ 232 ∷ 22 ∷ 83 ∷ 194 ∷ 165 ∷ 11 ∷ 189 ∷ 191 ∷ 156 ∷ 177 ∷ 123 ∷ 82 ∷ 208 ∷ 190 ∷ 142 ∷ 170 ∷ 254 ∷ 69 ∷ 145 ∷ 103 ∷ 174 ∷ 182 ∷ 2 ∷ 35 ∷ 45 ∷ 202 ∷ 41 ∷ 130 ∷ 110 ∷ 48 ∷ 36 ∷ 84 ∷ 187 ∷ 212 ∷ 246 ∷ 201 ∷ 24 ∷ 180 ∷ 33 ∷ 14 ∷ 231 ∷ 227 ∷ 171 ∷ 236 ∷ 94 ∷ 20 ∷ 112 ∷ 239 ∷ 111 ∷ 34 ∷ 63 ∷ 209 ∷ 172 ∷ 149 ∷ 47 ∷ 233 ∷ 4 ∷ 72 ∷ 71 ∷ 178 ∷ 74 ∷ 100 ∷ 159 ∷ 128 ∷ 77 ∷ 29 ∷ 238 ∷ 125 ∷ 57 ∷ 186 ∷ 198 ∷ 237 ∷ 76 ∷ 15 ∷ 245 ∷ 248 ∷ 46 ∷ 251 ∷ 31 ∷ 205 ∷ 80 ∷ 243 ∷ 147 ∷ 68 ∷ 131 ∷ 124 ∷ 43 ∷ 161 ∷ 67 ∷ 250 ∷ 13 ∷ 214 ∷ 213 ∷ 228 ∷ 210 ∷ 157 ∷ 163 ∷ 96 ∷ 215 ∷ 199 ∷ 255 ∷ 87 ∷ 138 ∷ 226 ∷ 185 ∷ 247 ∷ 219 ∷ 3 ∷ 49 ∷ 54 ∷ 79 ∷ 62 ∷ 195 ∷ 183 ∷ 16 ∷ 56 ∷ 168 ∷ 221 ∷ 104 ∷ 91 ∷ 78 ∷ 44 ∷ 216 ∷ 50 ∷ 7 ∷ 121 ∷ 113 ∷ 253 ∷ 116 ∷ 167 ∷ 40 ∷ 144 ∷ 117 ∷ 181 ∷ 51 ∷ 21 ∷ 98 ∷ 244 ∷ 234 ∷ 53 ∷ 126 ∷ 8 ∷ 140 ∷ 137 ∷ 211 ∷ 143 ∷ 184 ∷ 229 ∷ 192 ∷ 134 ∷ 38 ∷ 119 ∷ 150 ∷ 30 ∷ 223 ∷ 75 ∷ 118 ∷ 132 ∷ 5 ∷ 90 ∷ 92 ∷ 55 ∷ 93 ∷ 37 ∷ 70 ∷ 160 ∷ 81 ∷ 225 ∷ 136 ∷ 193 ∷ 148 ∷ 61 ∷ 242 ∷ 129 ∷ 95 ∷ 6 ∷ 107 ∷ 106 ∷ 120 ∷ 99 ∷ 230 ∷ 241 ∷ 176 ∷ 105 ∷ 73 ∷ 85 ∷ 169 ∷ 207 ∷ 115 ∷ 222 ∷ 89 ∷ 109 ∷ 0 ∷ 0 ∷ 0 ∷ 0 ∷ 0 ∷ 0 ∷ 0 ∷ 0 ∷ 0 ∷ 0 ∷ 0 ∷ 0 ∷ 0 ∷ 0 ∷ 0 ∷ 0 ∷ 0 ∷ 0 ∷ 0 ∷ 0 ∷ 0 ∷ 0 ∷ 0 ∷ 0 ∷ 0 ∷ 0 ∷ 0 ∷ 0 ∷ 0 ∷ 0 ∷ 0 ∷ 0 ∷ 0 ∷ 0 ∷ 0 ∷ 0 ∷ 0 ∷ 0 ∷ 0 ∷ 0 ∷ 0 ∷ 0 ∷ 0 ∷ 0 ∷ 0 ∷ 0 ∷ 0 ∷ 0 ∷ 0 ∷ 0 ∷ 0 ∷ 0 ∷ 0 ∷ 0 ∷ 0 ∷ 0 ∷ 0 ∷ 0 ∷ 0 ∷ 0 ∷ 0 ∷ 0 ∷ 0 ∷ 0 ∷ 0 ∷ 0 ∷ 0 ∷ 0 ∷ 0 ∷ 0 ∷ 0 ∷ 0 ∷ 0 ∷ 0 ∷ 0 ∷ 0 ∷ 0 ∷ 0 ∷ 0 ∷ 0 ∷ 0 ∷ 0 ∷ 0 ∷ 0 ∷ 0 ∷ 0 ∷ 0 ∷ 0 ∷ 0 ∷ 0 ∷ 0 ∷ 0 ∷ 0 ∷ 0 ∷ 0 ∷ 0 ∷ 0 ∷ 0 ∷ 0 ∷ 0 ∷ 0 ∷ 0 ∷ 0 ∷ 0 ∷ 0 ∷ 0 ∷ 0 ∷ 0 ∷ 0 ∷ 0 ∷ 0 ∷ 0 ∷ 0 ∷ 0 ∷ 0 ∷ 0 ∷ 0 ∷ 0 ∷ 0 ∷ 0 ∷ 0 ∷ 0 ∷ 0 ∷ 0 ∷ 0 ∷ 0 ∷ 0 ∷ 0 ∷ 0 ∷ 0 ∷ 0 ∷ 0 ∷ 0 ∷ 0 ∷ 0 ∷ 0 ∷ 0 ∷ 0 ∷ 0 ∷ 0 ∷ 0 ∷ 0 ∷ 0 ∷ 0 ∷ 0 ∷ 0 ∷ 0 ∷ 0 ∷ 0 ∷ 0 ∷ 0 ∷ 0 ∷ 0 ∷ 0 ∷ 0 ∷ 0 ∷ 0 ∷ 0 ∷ 0 ∷ 0 ∷ 0 ∷ 0 ∷ 0 ∷ 0 ∷ 0 ∷ 0 ∷ 0 ∷ 0 ∷ 0 ∷ 0 ∷ 0 ∷ 0 ∷ 0 ∷ 0 ∷ 0 ∷ 0 ∷ 0 ∷ 0 ∷ 0 ∷ 0 ∷ 0 ∷ 0 ∷ 0 ∷ 0 ∷ 0 ∷ 0 ∷ 0 ∷ 0 ∷ 0 ∷ 0 ∷ 0 ∷ 0 ∷ 0 ∷ 0 ∷ 0 ∷ 0 ∷ 0 ∷ 0 ∷ 0 ∷ 0 ∷ 0 ∷ 0 ∷ 0 ∷ 0 ∷ 0 ∷ 0 ∷ 0 ∷ 0 ∷ 0 ∷ 0 ∷ 0 ∷ 0 ∷ 0 ∷ 0 ∷ 0 ∷ 0 ∷ 0 ∷ 0 ∷ 0 ∷ 0 ∷ 0 ∷ 0 ∷ 0 ∷ 0 ∷ 0 ∷ 0 ∷ 0 ∷ 0 ∷ 0 ∷ 0 ∷ 0 ∷ 0 ∷ 0 ∷ 0 ∷ 0 ∷ 0 ∷ 0 ∷ 0 ∷ 0 ∷ 0 ∷ 0 ∷ 0 ∷ 0 ∷ 0 ∷ 0 ∷ 0 ∷ 0 ∷ 0 ∷ 0 ∷ 0 ∷ 0 ∷ 0 ∷ 0 ∷ 0 ∷ 0 ∷ 0 ∷ 0 ∷ 0 ∷ 0 ∷ 0 ∷ 0 ∷ 0 ∷ 0 ∷ 0 ∷ 0 ∷ 0 ∷ 0 ∷ 0 ∷ 0 ∷ 0 ∷ 0 ∷ 0 ∷ 0 ∷ 0 ∷ 0 ∷ 0 ∷ 0 ∷ 0 ∷ 0 ∷ 0 ∷ 0 ∷ 0 ∷ 0 ∷ 0 ∷ 0 ∷ 0 ∷ 0 ∷ 0 ∷ 0 ∷ 0 ∷ 0 ∷ 0 ∷ 0 ∷ 0 ∷ 0 ∷ 0 ∷ 0 ∷ 0 ∷ 0 ∷ 0 ∷ 0 ∷ 0 ∷ 0 ∷ 0 ∷ 0 ∷ 0 ∷ 0 ∷ 0 ∷ 0 ∷ 0 ∷ 0 ∷ 0 ∷ 0 ∷ 0 ∷ 0 ∷ 0 ∷ 0 ∷ 0 ∷ 0 ∷ 0 ∷ 0 ∷ 0 ∷ 0 ∷ 0 ∷ 0 ∷ 0 ∷ 0 ∷ 0 ∷ 0 ∷ 0 ∷ 0 ∷ 0 ∷ 0 ∷ 0 ∷ 0 ∷ 0 ∷ 0 ∷ 0 ∷ 0 ∷ 0 ∷ 0 ∷ 0 ∷ 0 ∷ 0 ∷ 0 ∷ 0 ∷ 0 ∷ 0 ∷ 0 ∷ 0 ∷ 0 ∷ 0 ∷ 0 ∷ 0 ∷ 0 ∷ 0 ∷ 0 ∷ 0 ∷ 0 ∷ 0 ∷ 0 ∷ 0 ∷ 0 ∷ 0 ∷ 0 ∷ 0 ∷ 0 ∷ 0 ∷ 0 ∷ 0 ∷ 0 ∷ 0 ∷ 0 ∷ 0 ∷ 0 ∷ 0 ∷ 0 ∷ 0 ∷ 0 ∷ 0 ∷ 0 ∷ 0 ∷ 0 ∷ 0 ∷ 0 ∷ 0 ∷ 0 ∷ 0 ∷ 0 ∷ 0 ∷ 0 ∷ 0 ∷ 0 ∷ 0 ∷ 0 ∷ 0 ∷ 0 ∷ 0 ∷ 0 ∷ 0 ∷ 0 ∷ 0 ∷ 0 ∷ 0 ∷ 0 ∷ 0 ∷ 0 ∷ 0 ∷ 0 ∷ 0 ∷ 0 ∷ 0 ∷ 0 ∷ 0 ∷ 0 ∷ 0 ∷ 0 ∷ 0 ∷ 0 ∷ 0 ∷ 0 ∷ 0 ∷ 0 ∷ 0 ∷ 0 ∷ 0 ∷ 0 ∷ 0 ∷ 0 ∷ 0 ∷ 0 ∷ 0 ∷ 0 ∷ 0 ∷ 0 ∷ 0 ∷ 0 ∷ 0 ∷ 0 ∷ 0 ∷ 0 ∷ 0 ∷ 0 ∷ 0 ∷ 0 ∷ 0 ∷ 0 ∷ 0 ∷ 0 ∷ 0 ∷ 0 ∷ 0 ∷ 0 ∷ 0 ∷ 0 ∷ 0 ∷ 0 ∷ 0 ∷ 0 ∷ 0 ∷ 0 ∷ 0 ∷ 0 ∷ 0 ∷ 0 ∷ 0 ∷ 0 ∷ 0 ∷ 0 ∷ 0 ∷ 0 ∷ 0 ∷ 0 ∷ 0 ∷ 0 ∷ 0 ∷ 0 ∷ 0 ∷ 0 ∷ 0 ∷ 0 ∷ 0 ∷ 0 ∷ 0 ∷ 0 ∷ 0 ∷ 0 ∷ 0 ∷ 0 ∷ 0 ∷ 0 ∷ 0 ∷ 0 ∷ 0 ∷ 0 ∷ 0 ∷ 0 ∷ 0 ∷ 0 ∷ 0 ∷ 0 ∷ 0 ∷ 0 ∷ 0 ∷ 0 ∷ 0 ∷ 0 ∷ 0 ∷ 0 ∷ 0 ∷ 0 ∷ []

abbrev pub logs : List ℕ
logs = 510 ∷ 0 ∷ 85 ∷ 170 ∷ 119 ∷ 221 ∷ 238 ∷ 187 ∷ 204 ∷ 17 ∷ 51 ∷ 68 ∷ 34 ∷ 153 ∷ 102 ∷ 136 ∷ 177 ∷ 27 ∷ 1 ∷ 16 ∷ 108 ∷ 198 ∷ 64 ∷ 4 ∷ 99 ∷ 54 ∷ 32 ∷ 2 ∷ 8 ∷ 128 ∷ 216 ∷ 141 ∷ 7 ∷ 101 ∷ 112 ∷ 86 ∷ 93 ∷ 226 ∷ 213 ∷ 46 ∷ 193 ∷ 89 ∷ 28 ∷ 149 ∷ 184 ∷ 87 ∷ 139 ∷ 117 ∷ 92 ∷ 171 ∷ 186 ∷ 197 ∷ 14 ∷ 202 ∷ 172 ∷ 224 ∷ 178 ∷ 131 ∷ 56 ∷ 43 ∷ 23 ∷ 234 ∷ 174 ∷ 113 ∷ 41 ∷ 5 ∷ 62 ∷ 151 ∷ 146 ∷ 80 ∷ 227 ∷ 121 ∷ 120 ∷ 247 ∷ 123 ∷ 218 ∷ 135 ∷ 127 ∷ 183 ∷ 173 ∷ 143 ∷ 229 ∷ 74 ∷ 65 ∷ 94 ∷ 248 ∷ 20 ∷ 164 ∷ 30 ∷ 253 ∷ 222 ∷ 182 ∷ 223 ∷ 225 ∷ 107 ∷ 237 ∷ 160 ∷ 37 ∷ 199 ∷ 242 ∷ 124 ∷ 47 ∷ 10 ∷ 82 ∷ 181 ∷ 246 ∷ 240 ∷ 239 ∷ 15 ∷ 254 ∷ 91 ∷ 111 ∷ 109 ∷ 189 ∷ 60 ∷ 251 ∷ 191 ∷ 195 ∷ 219 ∷ 214 ∷ 241 ∷ 188 ∷ 40 ∷ 73 ∷ 148 ∷ 130 ∷ 203 ∷ 31 ∷ 126 ∷ 236 ∷ 90 ∷ 147 ∷ 220 ∷ 3 ∷ 212 ∷ 13 ∷ 231 ∷ 206 ∷ 165 ∷ 57 ∷ 205 ∷ 48 ∷ 77 ∷ 208 ∷ 194 ∷ 81 ∷ 19 ∷ 145 ∷ 233 ∷ 116 ∷ 215 ∷ 33 ∷ 21 ∷ 44 ∷ 25 ∷ 49 ∷ 71 ∷ 158 ∷ 18 ∷ 125 ∷ 228 ∷ 150 ∷ 59 ∷ 159 ∷ 53 ∷ 67 ∷ 55 ∷ 192 ∷ 179 ∷ 249 ∷ 78 ∷ 105 ∷ 115 ∷ 12 ∷ 83 ∷ 52 ∷ 245 ∷ 72 ∷ 122 ∷ 29 ∷ 100 ∷ 196 ∷ 84 ∷ 176 ∷ 209 ∷ 167 ∷ 132 ∷ 95 ∷ 11 ∷ 69 ∷ 76 ∷ 70 ∷ 211 ∷ 232 ∷ 66 ∷ 175 ∷ 35 ∷ 38 ∷ 133 ∷ 162 ∷ 50 ∷ 98 ∷ 88 ∷ 42 ∷ 61 ∷ 142 ∷ 36 ∷ 250 ∷ 75 ∷ 114 ∷ 157 ∷ 207 ∷ 96 ∷ 155 ∷ 154 ∷ 161 ∷ 185 ∷ 6 ∷ 26 ∷ 169 ∷ 39 ∷ 180 ∷ 252 ∷ 217 ∷ 24 ∷ 230 ∷ 166 ∷ 104 ∷ 156 ∷ 210 ∷ 243 ∷ 103 ∷ 63 ∷ 118 ∷ 201 ∷ 45 ∷ 106 ∷ 134 ∷ 129 ∷ 110 ∷ 58 ∷ 244 ∷ 235 ∷ 144 ∷ 200 ∷ 137 ∷ 97 ∷ 168 ∷ 138 ∷ 22 ∷ 152 ∷ 140 ∷ 9 ∷ 190 ∷ 79 ∷ 163 ∷ []

abbrev pub top_products : List ℕ
top_products = 0 ∷ 128 ∷ 192 ∷ 64 ∷ 176 ∷ 48 ∷ 112 ∷ 240 ∷ 208 ∷ 80 ∷ 16 ∷ 144 ∷ 96 ∷ 224 ∷ 160 ∷ 32 ∷ 141 ∷ 13 ∷ 77 ∷ 205 ∷ 61 ∷ 189 ∷ 253 ∷ 125 ∷ 93 ∷ 221 ∷ 157 ∷ 29 ∷ 237 ∷ 109 ∷ 45 ∷ 173 ∷ 198 ∷ 70 ∷ 6 ∷ 134 ∷ 118 ∷ 246 ∷ 182 ∷ 54 ∷ 22 ∷ 150 ∷ 214 ∷ 86 ∷ 166 ∷ 38 ∷ 102 ∷ 230 ∷ 75 ∷ 203 ∷ 139 ∷ 11 ∷ 251 ∷ 123 ∷ 59 ∷ 187 ∷ 155 ∷ 27 ∷ 91 ∷ 219 ∷ 43 ∷ 171 ∷ 235 ∷ 107 ∷ 185 ∷ 57 ∷ 121 ∷ 249 ∷ 9 ∷ 137 ∷ 201 ∷ 73 ∷ 105 ∷ 233 ∷ 169 ∷ 41 ∷ 217 ∷ 89 ∷ 25 ∷ 153 ∷ 52 ∷ 180 ∷ 244 ∷ 116 ∷ 132 ∷ 4 ∷ 68 ∷ 196 ∷ 228 ∷ 100 ∷ 36 ∷ 164 ∷ 84 ∷ 212 ∷ 148 ∷ 20 ∷ 127 ∷ 255 ∷ 191 ∷ 63 ∷ 207 ∷ 79 ∷ 15 ∷ 143 ∷ 175 ∷ 47 ∷ 111 ∷ 239 ∷ 31 ∷ 159 ∷ 223 ∷ 95 ∷ 242 ∷ 114 ∷ 50 ∷ 178 ∷ 66 ∷ 194 ∷ 130 ∷ 2 ∷ 34 ∷ 162 ∷ 226 ∷ 98 ∷ 146 ∷ 18 ∷ 82 ∷ 210 ∷ 222 ∷ 94 ∷ 30 ∷ 158 ∷ 110 ∷ 238 ∷ 174 ∷ 46 ∷ 14 ∷ 142 ∷ 206 ∷ 78 ∷ 190 ∷ 62 ∷ 126 ∷ 254 ∷ 83 ∷ 211 ∷ 147 ∷ 19 ∷ 227 ∷ 99 ∷ 35 ∷ 163 ∷ 131 ∷ 3 ∷ 67 ∷ 195 ∷ 51 ∷ 179 ∷ 243 ∷ 115 ∷ 24 ∷ 152 ∷ 216 ∷ 88 ∷ 168 ∷ 40 ∷ 104 ∷ 232 ∷ 200 ∷ 72 ∷ 8 ∷ 136 ∷ 120 ∷ 248 ∷ 184 ∷ 56 ∷ 149 ∷ 21 ∷ 85 ∷ 213 ∷ 37 ∷ 165 ∷ 229 ∷ 101 ∷ 69 ∷ 197 ∷ 133 ∷ 5 ∷ 245 ∷ 117 ∷ 53 ∷ 181 ∷ 103 ∷ 231 ∷ 167 ∷ 39 ∷ 215 ∷ 87 ∷ 23 ∷ 151 ∷ 183 ∷ 55 ∷ 119 ∷ 247 ∷ 7 ∷ 135 ∷ 199 ∷ 71 ∷ 234 ∷ 106 ∷ 42 ∷ 170 ∷ 90 ∷ 218 ∷ 154 ∷ 26 ∷ 58 ∷ 186 ∷ 250 ∷ 122 ∷ 138 ∷ 10 ∷ 74 ∷ 202 ∷ 161 ∷ 33 ∷ 97 ∷ 225 ∷ 17 ∷ 145 ∷ 209 ∷ 81 ∷ 113 ∷ 241 ∷ 177 ∷ 49 ∷ 193 ∷ 65 ∷ 1 ∷ 129 ∷ 44 ∷ 172 ∷ 236 ∷ 108 ∷ 156 ∷ 28 ∷ 92 ∷ 220 ∷ 252 ∷ 124 ∷ 60 ∷ 188 ∷ 76 ∷ 204 ∷ 140 ∷ 12 ∷ []

abbrev pub solutions : List ℕ
solutions = 0 ∷ 2 ∷ 4 ∷ 6 ∷ 10 ∷ 8 ∷ 14 ∷ 12 ∷ 16 ∷ 18 ∷ 20 ∷ 22 ∷ 26 ∷ 24 ∷ 30 ∷ 28 ∷ 42 ∷ 40 ∷ 46 ∷ 44 ∷ 32 ∷ 34 ∷ 36 ∷ 38 ∷ 58 ∷ 56 ∷ 62 ∷ 60 ∷ 48 ∷ 50 ∷ 52 ∷ 54 ∷ 76 ∷ 78 ∷ 72 ∷ 74 ∷ 70 ∷ 68 ∷ 66 ∷ 64 ∷ 92 ∷ 94 ∷ 88 ∷ 90 ∷ 86 ∷ 84 ∷ 82 ∷ 80 ∷ 102 ∷ 100 ∷ 98 ∷ 96 ∷ 108 ∷ 110 ∷ 104 ∷ 106 ∷ 118 ∷ 116 ∷ 114 ∷ 112 ∷ 124 ∷ 126 ∷ 120 ∷ 122 ∷ 180 ∷ 182 ∷ 176 ∷ 178 ∷ 190 ∷ 188 ∷ 186 ∷ 184 ∷ 164 ∷ 166 ∷ 160 ∷ 162 ∷ 174 ∷ 172 ∷ 170 ∷ 168 ∷ 158 ∷ 156 ∷ 154 ∷ 152 ∷ 148 ∷ 150 ∷ 144 ∷ 146 ∷ 142 ∷ 140 ∷ 138 ∷ 136 ∷ 132 ∷ 134 ∷ 128 ∷ 130 ∷ 248 ∷ 250 ∷ 252 ∷ 254 ∷ 242 ∷ 240 ∷ 246 ∷ 244 ∷ 232 ∷ 234 ∷ 236 ∷ 238 ∷ 226 ∷ 224 ∷ 230 ∷ 228 ∷ 210 ∷ 208 ∷ 214 ∷ 212 ∷ 216 ∷ 218 ∷ 220 ∷ 222 ∷ 194 ∷ 192 ∷ 198 ∷ 196 ∷ 200 ∷ 202 ∷ 204 ∷ 206 ∷ []

steps_tested : T (every (λ i. nat_eq (slice_index exps (suc i)) (bilinear 18 (slice_index exps i))) 509)
unfolding bilinear
steps_tested = tt

step : (i : ℕ) → i < 509 → slice_index exps (suc i) ≡ bilinear 18 (slice_index exps i)
step i h = eqb→eq _ _ (every_at (λ i. nat_eq (slice_index exps (suc i)) (bilinear 18 (slice_index exps i))) 509 steps_tested i h)

powers : (i : ℕ) → i < 510 → slice_index exps i ≡ power i
powers zero h = refl
powers (suc i) h = step i (omega arith) ∙ ap (bilinear 18) (powers i (omega arith))

zeros : (k : ℕ) → k < 511 → slice_index exps (510 + k) ≡ 0
zeros k h = eqb→eq _ _ (every_at (λ k. nat_eq (slice_index exps (510 + k)) 0) 511 tt k h)

-- the powers, and then zeros
pub exps_are : (i : ℕ) → i < 1021 → slice_index exps i ≡ cond (nat_lt i 510) (power i) 0
exps_are i h = go (cases_lt i 510)
  where
    go : (i < 510) ⊎ (510 ≤ i) → slice_index exps i ≡ cond (nat_lt i 510) (power i) 0
    go (inl l) = powers i l ∙ sym (cond-true _ _ _ (lt-ltb i 510 l))
    go (inr l) = let e : 510 + (i - 510) ≡ i = omega arith in sym (ap (λ n. slice_index exps n) e) ∙ zeros (i - 510) (omega arith) ∙ sym (cond-false _ _ _ (le-ltb i 510 l))

-- the exponents of the powers; that of zero leads to the zeros
pub logs_are : (x : ℕ) → x < 256 → Log x (slice_index logs x)
logs_are zero h = record { at_most = lit≤ tt; of_zero = λ e. refl; of_power = λ l. absurd (omega arith) }
logs_are (suc y) h =
    let x = suc y in
    let small : slice_index_or logs (suc y) 0 < 255 = ltb-true _ _ (truly _ (every_at (λ y. ltb (slice_index logs (suc y)) 255) 255 tt y (omega arith))) in
    let same : slice_index_or exps (slice_index logs (suc y)) 0 ≡ suc y = eqb→eq _ _ (every_at (λ y. nat_eq (slice_index exps (slice_index logs (suc y))) (suc y)) 255 tt y (omega arith)) in
    record { at_most = omega arith; of_zero = λ e. absurd (omega arith); of_power = λ l. (small, sym (powers (slice_index logs (suc y)) (omega arith)) ∙ same) }

pub power_255 : power 255 ≡ 1
power_255 = sym (powers 255 (omega arith))

top_tested : T (every (λ x. nat_eq (slice_index top_products x) (bilinear x 128)) 256)
unfolding bilinear
top_tested = tt

pub top_products_are : (x : ℕ) → x < 256 → slice_index top_products x ≡ bilinear x 128
top_products_are x h = eqb→eq _ _ (every_at (λ x. nat_eq (slice_index top_products x) (bilinear x 128)) 256 top_tested x h)

abbrev pub square_sum : ℕ → ℕ
square_sum y = bit_xor (bilinear y y) y

small_tested : T (every (λ y. ltb (square_sum y) 128) 256)
unfolding bilinear
small_tested = tt

-- y² + y is below 128 for each y, and what the table has at it is y or y + 1
pub square_sum_lt : (y : ℕ) → y < 256 → square_sum y < 128
square_sum_lt y h = ltb-true _ _ (truly _ (every_at (λ y. ltb (square_sum y) 128) 256 small_tested y h))

even_tested : T (every (λ k. nat_eq (slice_index solutions (square_sum (2 * k))) (2 * k)) 128)
unfolding bilinear
even_tested = tt

even_solution : (k : ℕ) → k < 128 → slice_index solutions (square_sum (2 * k)) ≡ 2 * k
even_solution k h = eqb→eq _ _ (every_at (λ k. nat_eq (slice_index solutions (square_sum (2 * k))) (2 * k)) 128 even_tested k h)

solutions_tested : T (every (λ t. solves_byte t (slice_index solutions t)) 128)
unfolding bilinear
solutions_tested = tt

-- each number below 128 is y² + y for the even y in the table, and for no other even y
pub solutions_solve : (t : ℕ) → t < 128 → solves_byte t (slice_index solutions t) ≡ true
solutions_solve t h = truly _ (every_at (λ t. solves_byte t (slice_index solutions t)) 128 solutions_tested t h)

pub solutions_lt : (t : ℕ) → t < 128 → slice_index solutions t < 256
solutions_lt t h = ltb-true _ _ (truly _ (every_at (λ t. ltb (slice_index solutions t) 256) 128 tt t h))

pub solutions_only : (t y : ℕ) → y < 256 → solves_byte t y ≡ true → y ≡ slice_index solutions t
solutions_only t y h e =
    let p = and_parts (y % 2 == 0) (square_sum y == t) e in
    let even : y % 2 ≡ 0 = eqb-true _ _ p.0 in
    let k : 2 * (y / 2) ≡ y = omega arith in
    sym k ∙ sym (even_solution (y / 2) (omega arith)) ∙ ap (λ z. slice_index solutions (square_sum z)) k ∙ ap (λ s. slice_index solutions s) (eqb-true _ _ p.1)

-- the basis begins with 1; each next element is the solution of the one before, and the last has none
pub basis_next : (j : ℕ) → j < 7 → (slice_index byte_basis j < 128) × (slice_index byte_basis (suc j) ≡ slice_index solutions (slice_index byte_basis j))
basis_next j h = (ltb-true _ _ (truly _ (every_at (λ j. ltb (slice_index byte_basis j) 128) 7 tt j h)), eqb→eq _ _ (every_at (λ j. nat_eq (slice_index byte_basis (suc j)) (slice_index solutions (slice_index byte_basis j))) 7 tt j h))

pub basis_lt : (j : ℕ) → j < 8 → slice_index byte_basis j < 256
basis_lt j h = ltb-true _ _ (truly _ (every_at (λ j. ltb (slice_index byte_basis j) 256) 8 tt j h))
