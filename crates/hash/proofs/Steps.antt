-- The rotation, and the recursions of `Sha256`, one step at a time. Assumes nothing.
use Rattle.std.proofs.Common.{◌≡◌, ℕ, w32, bit_or, ◌/◌, ◌%◌, ◌^◌, zero, suc, ◌+◌, ◌-◌, ◌*◌, ◌<◌, ◌≤◌, ◌≢◌, List, [], ◌∷◌, ◌++◌, length, get_or, take, set, sym, refl, ap, ◌∙◌, add-one, arith, get_or-set_other}
use Rattle.std.specs.Int.{rotate_right}
use Rattle.std.proofs.lemmas.List.{length-take-le, get_or-take, take_more_set}
use Rattle.hash.specs.declared.sha2.State.{State}
use Rattle.hash.specs.Schedule.{Reached}
use Rattle.hash.specs.Sha256.{IsTurn, ROTR, K, round, rounds, schedule, Wt, σ0, σ1, ◌⊞◌, hashed, compress, block}

-- std's rotation, as the standard has it
pub turned : (n x : ℕ) → IsTurn n → rotate_right w32 x n ≡ ROTR n x
turned n x h =
    let down : n % 32 ≡ n = omega arith in
    let up : (32 - n % 32) % 32 ≡ 32 - n = omega arith in
    ap (λ k. bit_or (x / 2 ^ k) ((x * 2 ^ ((32 - n % 32) % 32)) % 2 ^ 32)) down ∙ ap (λ k. bit_or (x / 2 ^ n) ((x * 2 ^ k) % 2 ^ 32)) up

-- one round more
pub rounds_more : (t : ℕ) (s : State) (w : List ℕ) → rounds (t + 1) s w ≡ round (rounds t s w) (get_or K t 0) (get_or w t 0)
unfolding rounds
rounds_more t s w = rw add-one

-- one word more of the schedule
schedule_more : (n : ℕ) (w : List ℕ) → schedule (n + 1) w ≡ schedule n w ++ (Wt (schedule n w) ∷ [])
unfolding schedule
schedule_more n w = rw add-one

-- one block more
pub hashed_more : (i : ℕ) (m : List ℕ) → hashed (i + 1) m ≡ compress (hashed i m) (block m i)
unfolding hashed
hashed_more i m = rw add-one

-- the next word, by its places in an array that has the words before it
pub word_from :
    (w : List ℕ) (t : ℕ) → 16 ≤ t → t ≤ length w
    → Wt (take t w) ≡ σ1 (get_or w (t - 2) 0) ⊞ get_or w (t - 7) 0 ⊞ σ0 (get_or w (t - 15) 0) ⊞ get_or w (t - 16) 0
unfolding Wt
word_from w t low high =
    let len : length (take t w) ≡ t = length-take-le t w high in
    let two : t - 2 < t = omega arith in
    let seven : t - 7 < t = omega arith in
    let fifteen : t - 15 < t = omega arith in
    let sixteen : t - 16 < t = omega arith in
    simp (len, get_or-take t w (t - 2) 0 two, get_or-take t w (t - 7) 0 seven, get_or-take t w (t - 15) 0 fifteen, get_or-take t w (t - 16) 0 sixteen)

-- t rounds do not see a word after the first t
rounds_set : (t k y : ℕ) (s : State) (w : List ℕ) → t ≤ k → rounds t s (set w k y) ≡ rounds t s w
unfolding rounds
rounds_set zero k y s w h = refl
rounds_set (suc t) k y s w h =
    let ne : t ≢ k = omega arith in
    ap (λ r. round r (get_or K t 0) (get_or (set w k y) t 0)) (rounds_set t k y s w (omega arith))
    ∙ ap (round (rounds t s w) (get_or K t 0)) (rw get_or-set_other)

-- one round and one word more, by what the calls for them say
pub reached_more :
    (t : ℕ) (m : List ℕ) (v s r : State) (w after : List ℕ) → t + 16 < length w → Reached t m v s w → ((u : State) → s ≡ rounds t u w → r ≡ rounds (t + 1) u w)
    → after ≡ set w (t + 16) (Wt (take (t + 16) w)) → Reached (t + 1) m v r after
reached_more t m v s r w after h before turned next =
    let y = Wt (take (t + 16) w) in
    let n : t + 1 + 16 ≡ t + 16 + 1 = omega arith in
    record {
      words = ap (take (t + 1 + 16)) next
          ∙ ap (λ k. take k (set w (t + 16) y)) n ∙ take_more_set w (t + 16) y h ∙ ap (λ x. x ++ (Wt x ∷ [])) before.words ∙ sym (schedule_more t m);
      state = turned v before.state ∙ sym (rounds_set (t + 1) (t + 16) y v w (omega arith)) ∙ ap (rounds (t + 1) v) (sym next);
    }
