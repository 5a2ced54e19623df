-- How many calls have failed by a moment.
use Rattle.std.proofs.Common.{◌≡◌, ℕ, zero, suc, ◌+◌, ◌-◌, ◌^◌, ◌<◌, ◌≤◌, min, Bool, true, false, ◌||◌, inl, inr, cond, eqb, leb, ltb, List, refl, sym, ap, subst, ◌∙◌, arith}
use Rattle.std.proofs.lemmas.Bool.{cond-true, cond-false, lt-ltb, le-ltb, le-leb, lt-leb, cases_lt, cond_both, or_right, true≢false}
use Rattle.std.specs.List.{list_any}
use Rattle.zj_dev.specs.Fault.{Rose}
use Rattle.zj_dev.specs.Medium.{fails_at, faults_before, faults_until}

-- only the calls before a moment count
pub faults_before-same : (f g : ℕ → Bool) (n : ℕ) → ((k : ℕ) → k < n → g k ≡ f k) → faults_before g n ≡ faults_before f n
faults_before-same f g zero same = refl
faults_before-same f g (suc n) same =
    let rest = faults_before-same f g n (λ k l. same k (omega arith)) in
    let here = same n (omega arith) in
    ap (λ (b : Bool). faults_before g n + cond b 1 0) here ∙ ap (λ (m : ℕ). m + cond (f n) 1 0) rest

pub faults_before_le : (f : ℕ → Bool) (n : ℕ) → faults_before f n ≤ n
faults_before_le f zero = omega arith
faults_before_le f (suc n) =
    let rest = faults_before_le f n in
    cond_both (f n) 1 0 (λ x. faults_before f n + x ≤ suc n) (λ e. omega arith) (λ e. omega arith)

pub faults_before_step : (f : ℕ → Bool) (n : ℕ) → faults_before f n ≤ faults_before f (n + 1)
faults_before_step f n =
    let e : n + 1 ≡ suc n = omega arith in
    subst (λ (m : ℕ). faults_before f n ≤ faults_before f m) (sym e)
    (cond_both (f n) 1 0 (λ x. faults_before f n ≤ faults_before f n + x) (λ e. omega arith) (λ e. omega arith))

pub faults_before-fault : (f : ℕ → Bool) (n : ℕ) → f n ≡ true → faults_before f (n + 1) ≡ faults_before f n + 1
faults_before-fault f n h =
    let e : n + 1 ≡ suc n = omega arith in
    ap (λ (m : ℕ). faults_before f m) e ∙ ap (λ (b : Bool). faults_before f n + cond b 1 0) h

faults_until-below : (f : ℕ → Bool) (n : ℕ) → n < 2 ^ 64 - 1 → faults_until f n ≡ faults_before f n
faults_until-below f n l = cond-true (ltb n (2 ^ 64 - 1)) (faults_before f n) (2 ^ 64 - 1) (lt-ltb n (2 ^ 64 - 1) l)

faults_until-end : (f : ℕ → Bool) (n : ℕ) → 2 ^ 64 - 1 ≤ n → faults_until f n ≡ 2 ^ 64 - 1
faults_until-end f n l = cond-false (ltb n (2 ^ 64 - 1)) (faults_before f n) (2 ^ 64 - 1) (le-ltb n (2 ^ 64 - 1) l)

pub faults_until-same : (f g : ℕ → Bool) (n : ℕ) → ((k : ℕ) → k < n → g k ≡ f k) → faults_until g n ≡ faults_until f n
faults_until-same f g n same = ap (λ (m : ℕ). cond (ltb n (2 ^ 64 - 1)) m (2 ^ 64 - 1)) (faults_before-same f g n same)

-- The count doesn't fall.
pub no_fewer : (f : ℕ → Bool) (n m : ℕ) → m ≡ min (n + 1) (2 ^ 64 - 1) → faults_until f n ≤ faults_until f m
no_fewer f n m is = elim (cases_lt (n + 1) (2 ^ 64 - 1)) [
  | inl below ↦
      let e : m ≡ n + 1 = omega arith in
      let a = faults_until-below f n (omega arith) in
      let b = faults_until-below f (n + 1) below in
      let s = faults_before_step f n in
      subst (λ (k : ℕ). faults_until f n ≤ faults_until f k) (sym e) (rw (a, b) s)
  | inr end ↦
      let b = faults_until-end f m (omega arith) in
      rw b (elim (cases_lt n (2 ^ 64 - 1)) [
        | inl below ↦
            let a = faults_until-below f n below in
            let s = faults_before_le f n in
            rw a (omega arith)
        | inr late ↦
            let a = faults_until-end f n late in
            rw a (omega arith)
      ])
]

-- A call that doesn't fail leaves it.
pub quiet : (f : ℕ → Bool) (n m : ℕ) → n < 2 ^ 63 → m ≡ min (n + 1) (2 ^ 64 - 1) → f n ≡ false → faults_until f m ≡ faults_until f n
quiet f n m early is none =
    let e : m ≡ suc n = omega arith in
    let a = faults_until-below f n (omega arith) in
    let b = faults_until-below f (suc n) (omega arith) in
    let one : faults_before f (suc n) ≡ faults_before f n + 0 = ap (λ (t : Bool). faults_before f n + cond t 1 0) none in
    ap (λ (k : ℕ). faults_until f k) e ∙ b ∙ one ∙ omega arith ∙ sym a

-- a disk that doesn't fail has not stopped
pub not_stopped : (failing : List ℕ) (stop call : ℕ) → fails_at failing stop call ≡ false → call < stop
not_stopped failing stop call none = elim (cases_lt call stop) [
  | inl below ↦ below
  | inr late ↦ absurd (true≢false (sym (or_right (list_any (λ told. eqb told call) failing) (leb stop call) (le-leb stop call late)) ∙ none))
]

-- A call that fails raises the count.
pub rose : (f g : ℕ → Bool) (n m : ℕ) → m ≡ min (n + 1) (2 ^ 64 - 1) → ((k : ℕ) → k < n → g k ≡ f k) → g n ≡ true → Rose (faults_until f n) (faults_until g m)
rose f g n m is same fails =
    subst (λ (k : ℕ). Rose k (faults_until g m)) (faults_until-same f g n same) (elim (cases_lt (n + 1) (2 ^ 64 - 1)) [
      | inl below ↦
          let e : m ≡ n + 1 = omega arith in
          let a = faults_until-below g n (omega arith) in
          let b = faults_until-below g (n + 1) below in
          let s = faults_before-fault g n fails in
          subst (λ (k : ℕ). Rose (faults_until g n) (faults_until g k)) (sym e) (rw (a, b, s) (omega arith))
      | inr end ↦
          let b = faults_until-end g m (omega arith) in
          rw b (omega arith)
    ])

-- A disk that stops at a call fails there, and before it as it was told to.
pub stops : (failing : List ℕ) (stop call : ℕ) → fails_at failing (min stop call) call ≡ true
stops failing stop call = elim (list_any (λ told. eqb told call) failing) as (λ b. (b || leb (min stop call) call) ≡ true) [ true ↦ refl | false ↦ le-leb (min stop call) call (omega arith) ]

le_min : (stop call k : ℕ) → k < call → leb (min stop call) k ≡ leb stop k
le_min stop call k l = elim (cases_lt k stop) [
  | inl low ↦ lt-leb (min stop call) k (omega arith) ∙ sym (lt-leb stop k low)
  | inr high ↦ le-leb (min stop call) k (omega arith) ∙ sym (le-leb stop k high)
]

pub stops_later : (failing : List ℕ) (stop call k : ℕ) → k < call → fails_at failing (min stop call) k ≡ fails_at failing stop k
stops_later failing stop call k l = ap (λ (b : Bool). list_any (λ told. eqb told k) failing || b) (le_min stop call k l)
