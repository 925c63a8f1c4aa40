-- Words and their bytes in lists.
use Rattle.std.proofs.Common.{◌≡◌, ℕ, zero, suc, ◌*◌, ◌<◌, List, [], ◌∷◌, length, refl, ap, arith, get_or}
use Rattle.std.proofs.Math.ListN.{set}
use Rattle.tms_defs.specs.Words.{high, low, join, words_of_bytes}
use Rattle.sim_view.specs.View.{listed, relisted}
use Rattle.sim_view.proofs.Seen.{spell}

pub join-bytes : (w : ℕ) → join (high w) (low w) ≡ w
join-bytes w = omega arith

pub high-join : (b w : ℕ) → high (join b (low w)) ≡ b
high-join b w = omega arith

pub low-join : (b w : ℕ) → low (join b (low w)) ≡ low w
low-join b w = omega arith

pub double_suc : (k : ℕ) → 2 * suc k ≡ suc (suc (2 * k))
double_suc k = omega arith

pub get-spell_high : (ws : List ℕ) (k : ℕ) → k < length ws → get_or (spell ws) (2 * k) 0 ≡ high (get_or ws k 0)
get-spell_high [] k h = absurd (omega arith)
get-spell_high (w ∷ ws) zero h = refl
get-spell_high (w ∷ ws) (suc k) h = rw (double_suc k) (get-spell_high ws k (omega arith))

pub get-spell_low : (ws : List ℕ) (k : ℕ) → k < length ws → get_or (spell ws) (suc (2 * k)) 0 ≡ low (get_or ws k 0)
get-spell_low [] k h = absurd (omega arith)
get-spell_low (w ∷ ws) zero h = refl
get-spell_low (w ∷ ws) (suc k) h = rw (double_suc k) (get-spell_low ws k (omega arith))

pub set-spell : (ws : List ℕ) (k v : ℕ) → set (set (spell ws) (2 * k) (high v)) (suc (2 * k)) (low v) ≡ spell (set ws k v)
set-spell [] k v = refl
set-spell (w ∷ ws) zero v = refl
set-spell (w ∷ ws) (suc k) v = rw (double_suc k) (ap (λ (l : List ℕ). high w ∷ low w ∷ l) (set-spell ws k v))

pub set-spell_high : (ws : List ℕ) (k b : ℕ) → set (spell ws) (2 * k) b ≡ spell (set ws k (join b (low (get_or ws k 0))))
set-spell_high [] k b = refl
set-spell_high (w ∷ ws) zero b = rw (high-join b w, low-join b w)
set-spell_high (w ∷ ws) (suc k) b = rw (double_suc k) (ap (λ (l : List ℕ). high w ∷ low w ∷ l) (set-spell_high ws k b))

pub high-with : (b w : ℕ) → b < 256 → high (join (high w) b) ≡ high w
high-with b w f = omega arith

pub low-with : (b w : ℕ) → b < 256 → low (join (high w) b) ≡ b
low-with b w f = omega arith

pub set-spell_low : (ws : List ℕ) (k b : ℕ) → b < 256 → set (spell ws) (suc (2 * k)) b ≡ spell (set ws k (join (high (get_or ws k 0)) b))
set-spell_low [] k b f = refl
set-spell_low (w ∷ ws) zero b f = rw (high-with b w f, low-with b w f)
set-spell_low (w ∷ ws) (suc k) b f = rw (double_suc k) (ap (λ (l : List ℕ). high w ∷ low w ∷ l) (set-spell_low ws k b f))

pub length-spell : (ws : List ℕ) → length (spell ws) ≡ 2 * length ws
length-spell [] = refl
length-spell (w ∷ ws) = omega (arith, length-spell ws)

pub listed-relisted : (l : List ℕ) → length l ≡ 16 → listed (relisted l) ≡ l
listed-relisted (a ∷ b ∷ c ∷ d ∷ e ∷ f ∷ g ∷ h ∷ i ∷ j ∷ k ∷ l ∷ m ∷ n ∷ o ∷ p ∷ []) q = refl
listed-relisted l q = absurd (omega arith)

-- bytes spelled and read again
pub spell-words : (n : ℕ) (bs : List ℕ) → length bs ≡ 2 * n → ((i : ℕ) → get_or bs i 0 < 256) → spell (words_of_bytes bs) ≡ bs
spell-words zero [] q h = refl
spell-words zero (b ∷ bs) q h = absurd (omega arith)
spell-words (suc n) [] q h = absurd (omega arith)
spell-words (suc n) (b ∷ []) q h = absurd (omega arith)
spell-words (suc n) (b ∷ d ∷ bs) q h =
    let low_byte : d < 256 = h 1 in let e : high (join b d) ≡ b = omega arith in let f : low (join b d) ≡ d = omega arith in
    rw (e, f, spell-words n bs (omega arith) (λ i. h (suc (suc i))))

pub length-words : (n : ℕ) (bs : List ℕ) → length bs ≡ 2 * n → length (words_of_bytes bs) ≡ n
length-words zero [] q = refl
length-words zero (b ∷ bs) q = absurd (omega arith)
length-words (suc n) [] q = absurd (omega arith)
length-words (suc n) (b ∷ []) q = absurd (omega arith)
length-words (suc n) (b ∷ d ∷ bs) q = ap suc (length-words n bs (omega arith))

pub words-spell : (ws : List ℕ) → words_of_bytes (spell ws) ≡ ws
words-spell [] = refl
words-spell (w ∷ ws) = rw (join-bytes w, words-spell ws)
