-- how large an overview is
use Rattle.std.proofs.{Common.{◌≡◌, ℕ, zero, suc, ◌+◌, ◌*◌, ◌/◌, ◌<◌, ◌≤◌, min, max, nat_le, Bool, true, false, if◌then◌else◌, arith, refl}, Math.Nat.{div-mul-le_self, le-max_left, le-max_right, lt-div-mul-add, max-le, min-le_left, min-le_right}, lemmas.Bool.leb-true, lemmas.Nat.mul-le}
use Rattle.rb_picture.specs.{Overview.{frames_of, slot_width}, Places.slots_of, Sheets.IsSmall}

-- n items of a size that a test chooses have room if they have room with either answer
chosen : (test : Bool) (a b n most : ℕ) → (test ≡ true → a * n ≤ most) → (test ≡ false → b * n ≤ most) → (if test then a else b) * n ≤ most
chosen true a b n most first second = first refl
chosen false a b n most first second = second refl

-- a share of 320 is not 0
not_none : (q n : ℕ) → 320 < q * n + n → n ≤ 320 → 1 ≤ q
not_none zero n less small = absurd (omega (arith, less, small))
not_none (suc q) n less small = omega arith

share_fits : (n m q w : ℕ) → n ≤ m → w ≤ q → q * m ≤ 320 → w * n ≤ 320
share_fits n m q w narrow few room = omega (arith, mul-le w n q m few narrow, room)

columns_fit : (n : ℕ) → n ≤ 320 → max 1 (min 80 (320 / max 1 n)) * n ≤ 320
columns_fit n small =
    share_fits n (max 1 n) (320 / max 1 n) (max 1 (min 80 (320 / max 1 n))) (le-max_right 1 n)
    (max-le
    (not_none (320 / max 1 n) (max 1 n) (lt-div-mul-add (omega (arith, le-max_left 1 n))) (max-le (omega arith) small))
    (min-le_right 80 (320 / max 1 n)))
    (div-mul-le_self 320 (max 1 n))

rows_fit : (n : ℕ) → (if nat_le n 300 then 12 else if nat_le n 600 then 6 else 3) * min n 1200 ≤ 3600
rows_fit n =
    chosen (nat_le n 300) 12 (if nat_le n 600 then 6 else 3) (min n 1200) 3600
    (λ e. let few : n ≤ 300 = leb-true n 300 e in omega (arith, few, min-le_left n 1200))
    (λ _. chosen (nat_le n 600) 6 3 (min n 1200) 3600
    (λ e. let few : n ≤ 600 = leb-true n 600 e in omega (arith, few, min-le_left n 1200))
    (λ _. omega (arith, min-le_right n 1200)))

bands_fit : (n : ℕ) → n ≤ 4800 → (n + 1199) / 1200 ≤ 4
bands_fit n small = omega (arith, small, div-mul-le_self (n + 1199) 1200)

width_fits : (columns bands : ℕ) → columns ≤ 320 → bands ≤ 4 → max 440 (20 + (120 + columns) * bands) ≤ 2000
width_fits columns bands narrow few =
    max-le (omega arith) (omega (arith, mul-le (120 + columns) bands 440 4 (omega (arith, narrow)) few))

pub is_small : IsSmall
is_small extent frames slots = (
  width_fits (slot_width extent * slots_of extent) ((frames_of extent + 1199) / 1200) (columns_fit (slots_of extent) slots) (bands_fit (frames_of extent) frames),
  omega (arith, rows_fit (frames_of extent)),
)
