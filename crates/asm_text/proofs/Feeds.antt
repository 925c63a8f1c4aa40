-- Line feeds, found among many bytes by their mask.
use Rattle.std.proofs.Common.{◌≡◌, ℕ, zero, suc, ◌+◌, ◌*◌, ◌<◌, ◌≤◌, ◌⊎◌, inl, inr, Bool, true, false, not, cond, List, [], ◌∷◌, length, map}
use Rattle.std.proofs.Common.{refl, ap, sym, ◌∙◌, arith}
use Rattle.std.specs.List.{prefix_len}
use Rattle.std.proofs.lemmas.Bool.{cases_lt}
use Rattle.std.proofs.lemmas.List.Sums.{prefix_len-le-length}
use Rattle.std.proofs.lemmas.Simd.{length-chunk, none_from_empty_mask, run_in_chunk_fails, run_in_chunk_le, run_in_chunk_stops, trailing_mask_l}
use lib.Lanes.{chunk, mask_l}
use lib.Count.{count_trailing_zeros}
use Rattle.source_defs.specs.Characters.{is_line_feed}
use Rattle.source_defs.specs.Least.{least_place}
use Rattle.source_defs.specs.Lines.{feed_place}
use Rattle.source_defs.proofs.LeastLaws.{least_place_step}

-- places that do not pass are passed over
least_after : (p : ℕ → Bool) (bytes : List ℕ) (from n : ℕ) → from + n ≤ length bytes → ((k : ℕ) → from ≤ k → k < from + n → p k ≡ false)
    → least_place p bytes from ≡ least_place p bytes (from + n)
least_after p bytes from zero room fails = let same : from ≡ from + 0 = omega arith in ap (least_place p bytes) same
least_after p bytes from (suc n) room fails =
    let same : from + 1 + n ≡ from + suc n = omega arith in
    let here : p from ≡ false = fails from (omega arith) (omega arith) in
    least_place_step p bytes from (omega (arith, room)) ∙ (ap (λ b. cond b from (least_place p bytes (from + 1))) here
    ∙ (least_after p bytes (from + 1) n (omega (arith, room)) (λ k ge lt. fails k (omega (arith, ge)) (omega (arith, lt)))
    ∙ ap (least_place p bytes) same))

-- the least place is one that passes itself
least_here : (p : ℕ → Bool) (bytes : List ℕ) (from : ℕ) → from < length bytes → p from ≡ true → least_place p bytes from ≡ from
least_here p bytes from lt passes = least_place_step p bytes from lt ∙ ap (λ b. cond b from (least_place p bytes (from + 1))) passes

none_here : (b : Bool) (n l m : ℕ) → n ≤ l → cond (not b) (1 + n) 0 ≡ 1 + l → (n ≡ l → m ≡ 0) → cond b 1 0 + 2 * m ≡ 0
none_here true n l m le e others = absurd (omega (arith, e))
none_here false n l m le e others = let none = others (omega (arith, e)) in omega (arith, none)

-- the mask is empty where no byte is a line feed
empty_mask : (bytes : List ℕ) → prefix_len (λ byte. not (is_line_feed byte)) bytes ≡ length bytes → mask_l (map is_line_feed bytes) ≡ 0
empty_mask [] e = refl
empty_mask (byte ∷ bytes) e =
    none_here (is_line_feed byte) _ (length bytes) _ (prefix_len-le-length (λ b. not (is_line_feed b)) bytes) (omega (arith, e)) (empty_mask bytes)

module _ (text : List ℕ) (from : ℕ) (room : from + 32 ≤ length text) where
  abbrev pub feeds : ℕ
  feeds = mask_l (map is_line_feed (chunk from 32 text))

  -- where the mask is empty, the search goes on after these bytes
  pub no_feed : feeds ≡ 0 → feed_place text from ≡ feed_place text (from + 32)
  no_feed none = least_after _ text from 32 room (none_from_empty_mask is_line_feed text from 32 0 room none)

  abbrev before : ℕ
  before = count_trailing_zeros 64 feeds

  counted : 0 < feeds → before ≡ prefix_len (λ byte. not (is_line_feed byte)) (chunk from 32 text)
  counted some = trailing_mask_l is_line_feed 64 (chunk from 32 text) (omega (arith, length-chunk from 32 text room)) some

  -- else its lowest bit is one of these bytes
  pub within : 0 < feeds → before < 32
  within some = by (cases_lt before 32)
    where
      by : (before < 32) ⊎ (32 ≤ before) → before < 32
      by (inl lt) = lt
      by (inr ge) =
          let le = run_in_chunk_le is_line_feed text from 32 before 0 room (counted some) in
          let none = empty_mask (chunk from 32 text) (sym (counted some) ∙ omega (arith, le, ge, length-chunk from 32 text room)) in
          absurd (omega (arith, none, some))

  -- and the place of the line feed
  pub first_feed : 0 < feeds → feed_place text from ≡ from + before
  first_feed some =
      let lt = within some in
      let passes = run_in_chunk_stops is_line_feed text from 32 before 0 room (counted some) lt in
      least_after _ text from before (omega (arith, lt, room)) (run_in_chunk_fails is_line_feed text from 32 before 0 room (counted some))
      ∙ least_here _ text (from + before) (omega (arith, lt, room)) passes
