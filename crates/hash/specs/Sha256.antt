-- SHA-256 as FIPS 180-4 has it, over byte strings; a number in a comment is that standard's section. Assumes nothing.
use Rattle.std.specs.Prelude.{ℕ, zero, suc, ◌+◌, ◌-◌, ◌*◌, ◌/◌, ◌%◌, ◌^◌, ◌<◌, List, [], ◌∷◌, ◌++◌, map, length, take, drop, replicate, bit_and, bit_or, bit_xor, slice_index}
use Rattle.std.specs.List.{range_with_len, flat_map}
use Rattle.hash.specs.declared.sha2.State.{State}

-- 2.2.2, 3.2: words of 32 bits
infixl 20 ◌⊞◌
abbrev pub ◌⊞◌ : ℕ → ℕ → ℕ
x ⊞ y = (x + y) % 2 ^ 32

abbrev pub NOT : ℕ → ℕ
NOT x = (2 ^ 32 - 1) - x

abbrev pub SHR : ℕ → ℕ → ℕ
SHR n x = x / 2 ^ n

abbrev pub ROTR : ℕ → ℕ → ℕ
ROTR n x = bit_or (x / 2 ^ n) ((x * 2 ^ (32 - n)) % 2 ^ 32)

-- by how many places the functions below rotate: neither by none nor by a whole word
abbrev pub IsTurn : ℕ → Type 0
IsTurn n = (0 < n) × (n < 32)

-- 4.1.2: the functions
abbrev pub Ch : ℕ → ℕ → ℕ → ℕ
Ch x y z = bit_xor (bit_and x y) (bit_and (NOT x) z)

abbrev pub Maj : ℕ → ℕ → ℕ → ℕ
Maj x y z = bit_xor (bit_xor (bit_and x y) (bit_and x z)) (bit_and y z)

abbrev pub Σ : ℕ → ℕ → ℕ → ℕ → ℕ
Σ i j k x = bit_xor (bit_xor (ROTR i x) (ROTR j x)) (ROTR k x)

abbrev pub Σ0 : ℕ → ℕ
Σ0 = Σ 2 13 22

abbrev pub Σ1 : ℕ → ℕ
Σ1 = Σ 6 11 25

abbrev pub σ : ℕ → ℕ → ℕ → ℕ → ℕ
σ i j k x = bit_xor (bit_xor (ROTR i x) (ROTR j x)) (SHR k x)

abbrev pub σ0 : ℕ → ℕ
σ0 = σ 7 18 3

abbrev pub σ1 : ℕ → ℕ
σ1 = σ 17 19 10

-- 4.2.2: the constants
unfoldable pub K : List ℕ
K =
    0x428a2f98 ∷ 0x71374491 ∷ 0xb5c0fbcf ∷ 0xe9b5dba5 ∷ 0x3956c25b ∷ 0x59f111f1 ∷ 0x923f82a4 ∷ 0xab1c5ed5 ∷
    0xd807aa98 ∷ 0x12835b01 ∷ 0x243185be ∷ 0x550c7dc3 ∷ 0x72be5d74 ∷ 0x80deb1fe ∷ 0x9bdc06a7 ∷ 0xc19bf174 ∷
    0xe49b69c1 ∷ 0xefbe4786 ∷ 0x0fc19dc6 ∷ 0x240ca1cc ∷ 0x2de92c6f ∷ 0x4a7484aa ∷ 0x5cb0a9dc ∷ 0x76f988da ∷
    0x983e5152 ∷ 0xa831c66d ∷ 0xb00327c8 ∷ 0xbf597fc7 ∷ 0xc6e00bf3 ∷ 0xd5a79147 ∷ 0x06ca6351 ∷ 0x14292967 ∷
    0x27b70a85 ∷ 0x2e1b2138 ∷ 0x4d2c6dfc ∷ 0x53380d13 ∷ 0x650a7354 ∷ 0x766a0abb ∷ 0x81c2c92e ∷ 0x92722c85 ∷
    0xa2bfe8a1 ∷ 0xa81a664b ∷ 0xc24b8b70 ∷ 0xc76c51a3 ∷ 0xd192e819 ∷ 0xd6990624 ∷ 0xf40e3585 ∷ 0x106aa070 ∷
    0x19a4c116 ∷ 0x1e376c08 ∷ 0x2748774c ∷ 0x34b0bcb5 ∷ 0x391c0cb3 ∷ 0x4ed8aa4a ∷ 0x5b9cca4f ∷ 0x682e6ff3 ∷
    0x748f82ee ∷ 0x78a5636f ∷ 0x84c87814 ∷ 0x8cc70208 ∷ 0x90befffa ∷ 0xa4506ceb ∷ 0xbef9a3f7 ∷ 0xc67178f2 ∷
    []

-- 5.1.1: a 1 bit, zeros, and the length in bits as a number of 64 bits, so that whole blocks of 64 bytes come out
abbrev pub length_bytes : ℕ → List ℕ
length_bytes x =
    (x / 2 ^ 56 % 256) ∷ (x / 2 ^ 48 % 256) ∷ (x / 2 ^ 40 % 256) ∷ (x / 2 ^ 32 % 256) ∷
    (x / 2 ^ 24 % 256) ∷ (x / 2 ^ 16 % 256) ∷ (x / 2 ^ 8 % 256) ∷ (x % 256) ∷ []

abbrev pub padding : ℕ → List ℕ
padding n = 0x80 ∷ (replicate ((119 - n % 64) % 64) 0 ++ length_bytes ((n * 8) % 2 ^ 64))

unfoldable pub padded : List ℕ → List ℕ
padded m = m ++ padding (length m)

-- 5.2.1: a block's sixteen words, high byte first
abbrev pub word : List ℕ → ℕ → ℕ
word m i = slice_index m i * 2 ^ 24 + slice_index m (i + 1) * 2 ^ 16 + slice_index m (i + 2) * 2 ^ 8 + slice_index m (i + 3)

abbrev pub words : List ℕ → List ℕ
words m = map (λ t. word m (4 * t)) (range_with_len 0 16)

-- 5.3.3: the initial hash value
abbrev pub H0 : State
H0 = record {
  a = 0x6a09e667;
  b = 0xbb67ae85;
  c = 0x3c6ef372;
  d = 0xa54ff53a;
  e = 0x510e527f;
  f = 0x9b05688c;
  g = 0x1f83d9ab;
  h = 0x5be0cd19;
}

-- 6.2.2, step 1: the message schedule, of which w has the words before Wt
unfoldable pub Wt : List ℕ → ℕ
Wt w = let t = length w in σ1 (slice_index w (t - 2)) ⊞ slice_index w (t - 7) ⊞ σ0 (slice_index w (t - 15)) ⊞ slice_index w (t - 16)

unfoldable pub schedule : ℕ → List ℕ → List ℕ
schedule zero w = w
schedule (suc n) w = schedule n w ++ (Wt (schedule n w) ∷ [])

-- step 3: one round, and the first n
abbrev pub T1 : State → ℕ → ℕ → ℕ
T1 s k w = s.h ⊞ Σ1 s.e ⊞ Ch s.e s.f s.g ⊞ k ⊞ w

abbrev pub T2 : State → ℕ
T2 s = Σ0 s.a ⊞ Maj s.a s.b s.c

unfoldable pub round : State → ℕ → ℕ → State
round s k w = record {
  a = T1 s k w ⊞ T2 s;
  b = s.a;
  c = s.b;
  d = s.c;
  e = s.d ⊞ T1 s k w;
  f = s.e;
  g = s.f;
  h = s.g;
}

unfoldable pub rounds : ℕ → State → List ℕ → State
rounds zero s w = s
rounds (suc t) s w = round (rounds t s w) (slice_index K t) (slice_index w t)

-- step 4: the next hash value
abbrev pub sums : State → State → State
sums s t = record {
  a = s.a ⊞ t.a;
  b = s.b ⊞ t.b;
  c = s.c ⊞ t.c;
  d = s.d ⊞ t.d;
  e = s.e ⊞ t.e;
  f = s.f ⊞ t.f;
  g = s.g ⊞ t.g;
  h = s.h ⊞ t.h;
}

unfoldable pub compress : State → List ℕ → State
compress s m = sums s (rounds 64 s (schedule 48 (words m)))

-- 6.2.2: the hash value after n blocks of m
abbrev pub block : List ℕ → ℕ → List ℕ
block m i = take 64 (drop (64 * i) m)

unfoldable pub hashed : ℕ → List ℕ → State
hashed zero m = H0
hashed (suc i) m = compress (hashed i m) (block m i)

abbrev pub bytes : ℕ → List ℕ
bytes x = (x / 2 ^ 24 % 256) ∷ (x / 2 ^ 16 % 256) ∷ (x / 2 ^ 8 % 256) ∷ (x % 256) ∷ []

abbrev pub state_bytes : State → List ℕ
state_bytes s = flat_map bytes (s.a ∷ s.b ∷ s.c ∷ s.d ∷ s.e ∷ s.f ∷ s.g ∷ s.h ∷ [])

unfoldable pub sha256 : List ℕ → List ℕ
sha256 m = state_bytes (hashed (length (padded m) / 64) (padded m))
