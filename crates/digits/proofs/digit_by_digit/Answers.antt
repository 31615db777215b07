-- `digits::digit_by_digit` meets its contract. After i turns q * q + rem is m * 2 ^ 54's upper i pairs of digits, and q its root: rem ≤ 2 * q.
use Rattle.std.proofs.Common.{◌≡◌, ℕ, ◌+◌, ◌-◌, ◌*◌, ◌/◌, ◌%◌, ◌^◌, ◌<◌, ◌≤◌, lt_of_lt_of_le, arith, pow_mono, pow-add}
use Rattle.digits.proofs.digit_by_digit.Invariants.{After, four}
use Rattle.digits.proofs.digit_by_digit.Goals as goal
use Rattle.digits.proofs.digit_by_digit.Goals.{then-q-r, else-q-r}

le_53 : (i : ℕ) → i < 54 → i ≤ 53
le_53 i h = omega arith

small : (i q : ℕ) → i < 54 → q < 2 ^ i → q < 2 ^ 53
small i q h l = lt_of_lt_of_le l (pow_mono (le_53 i h))

two : (i : ℕ) → 2 ^ (i + 1) ≡ 2 ^ i * 2
two i = pow-add 2 i 1

first : (m : ℕ) → m < 2 ^ 54 → After m m 0 0 0
first m h = record { within = omega arith; left = h; least = omega arith; short = omega arith; taken = omega arith }

one_turn : (m rest q rem i : ℕ) → After m rest q rem i → i < 54 → 4 * q + 1 ≤ 4 * rem + rest / 4503599627370496
    → After m (4 * (rest % 4503599627370496)) (2 * q + 1) (4 * rem + rest / 4503599627370496 - (4 * q + 1)) (i + 1)
one_turn m rest q rem i a h l =
    let f = four m i in
    let t = two i in
    record { within = omega arith; left = omega arith; least = omega arith; short = omega arith; taken = omega arith }

zero_turn : (m rest q rem i : ℕ) → After m rest q rem i → i < 54 → 4 * rem + rest / 4503599627370496 < 4 * q + 1
    → After m (4 * (rest % 4503599627370496)) (2 * q) (4 * rem + rest / 4503599627370496) (i + 1)
zero_turn m rest q rem i a h l =
    let f = four m i in
    let t = two i in
    record { within = omega arith; left = omega arith; least = omega arith; short = omega arith; taken = omega arith }

last : (m rest q rem i : ℕ) → After m rest q rem i → 54 ≤ i → (q * q ≤ m * 2 ^ 54) × (m * 2 ^ 54 < (q + 1) * (q + 1))
last m rest q rem i a h =
    let e : i ≡ 54 = omega arith in
    let t : m * 4 ^ 54 ≡ (q * q + rem) * 2 ^ 54 + rest = rw e at a.taken in
    omega arith

pub loop-turn-init : goal.loop-turn-init
loop-turn-init c = first c.args.m c.requires

pub overflow_mul-r : goal.overflow_mul-r
overflow_mul-r c = omega (arith, small c.loop-turn.turn c.loop-turn.q (omega arith) c.loop-turn.invariant.short)

pub overflow_add-r : goal.overflow_add-r
overflow_add-r c = omega (arith, small c.loop-turn.turn c.loop-turn.q (omega arith) c.loop-turn.invariant.short)

pub overflow_mul-q : goal.overflow_mul-q
overflow_mul-q c = omega (arith, small c.loop-turn.turn c.loop-turn.q (omega arith) c.loop-turn.invariant.short)

pub overflow_add-q : goal.overflow_add-q
overflow_add-q c = omega (arith, small c.loop-turn.turn c.loop-turn.q (omega arith) c.loop-turn.invariant.short)

pub overflow_mul-rem : goal.overflow_mul-rem
overflow_mul-rem c = omega (arith, small c.loop-turn.turn c.loop-turn.q (omega arith) c.loop-turn.invariant.short)

pub overflow_add-rem : goal.overflow_add-rem
overflow_add-rem c = omega (arith, small c.loop-turn.turn c.loop-turn.q (omega arith) c.loop-turn.invariant.short)

pub loop-turn-preserved : goal.loop-turn-preserved
loop-turn-preserved c =
    let inv = c.loop-turn.invariant in
    elim c.if-q-r.branch [
      | then-q-r w ↦ rw (w.q-is, w.rem-is) (one_turn _ _ _ _ _ inv (omega arith) w.if-q-r.true)
      | else-q-r w ↦ rw (w.q-is, w.rem-is) (zero_turn _ _ _ _ _ inv (omega arith) w.if-q-r.false)
    ]

pub returns : goal.returns
returns c = last _ _ _ _ _ c.loop-turn.invariant (omega arith)
