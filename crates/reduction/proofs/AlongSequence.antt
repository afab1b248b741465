-- What every step keeps holds of every term of a reduction sequence, the last one included.
use mathlib.Core.Path.{◌≡◌}
use mathlib.Core.Bool.{Bool}
use mathlib.Core.List.{List, [], ◌∷◌, ◌++◌, map}
use mathlib.Core.Option.{some}
use Rattle.syntax.specs.Term.{Term}
use Rattle.syntax.specs.Lists.{◌∈◌, here, there}
use Rattle.reduction.specs.declared.Phase.{Phase}
use Rattle.reduction.specs.declared.Phase.TheVariants.{Insertion, Reduction, Dropping}
use Rattle.reduction.specs.Redex.{Step as Stepped, step}
use Rattle.reduction.specs.Sequence.{Steps, ended, stepped, Sequence, terms}

-- what holds of the terms of two runs of steps holds of those of both
pub in_either : (w : Term) (ss rs : List Stepped) {P : Term → Type 0} → ((z : Term) → z ∈ map (λ s. s.next) ss → P z)
    → ((z : Term) → z ∈ map (λ s. s.next) rs → P z) → w ∈ map (λ s. s.next) (ss ++ rs) → P w
in_either w [] rs f g i = g w i
in_either w (s ∷ ss) rs {P} f g i = go i f (λ z j. in_either z ss rs (λ y k. f y (there k)) g j)
  where
    go : {y : Term} → y ∈ map (λ s. s.next) (s ∷ (ss ++ rs)) → ((z : Term) → z ∈ map (λ s. s.next) (s ∷ ss) → P z)
        → ((z : Term) → z ∈ map (λ s. s.next) (ss ++ rs) → P z) → P y
    go {y = y} here f r = f y here
    go {y = y} (there j) f r = r y j

module _ (pure : Term → Bool) (P : Term → Type 0)
    (keep : (phase : Phase) (t : Term) (s : Stepped) → step pure phase t ≡ some s → P t → P s.next) where
  record Along (u : Term) (ss : List Stepped) : Type 0 where
    last : P u
    each : (w : Term) → w ∈ map (λ s. s.next) ss → P w

  none_in : {w : Term} → w ∈ [] → ⊥
  none_in = elim [ ]

  along : (phase : Phase) {t u : Term} {ss : List Stepped} → Steps pure phase t ss u → P t → Along u ss
  along phase (ended e) x = record { last = x; each = λ w i. absurd (none_in i) }
  along phase (stepped {t = t} {s = s} {ss = ss} e q) x =
      let n = keep phase t s e x in
      let a = along phase q n in
      record { last = a.last; each = λ w i. go n a i }
    where
      go : {w u : Term} → P s.next → Along u ss → w ∈ map (λ s. s.next) (s ∷ ss) → P w
      go n a here = n
      go {w = w} n a (there i) = a.each w i

  pub every_term : {t u : Term} (q : Sequence pure t u) → P t → ((w : Term) → w ∈ terms pure q → P w) × P u
  every_term {t} {u} q x =
      let a = along Insertion q.phase₁ x in
      let b = along Reduction q.phase₂ a.last in
      let c = along Dropping q.phase₃ b.last in
      (λ w i. go a b c i, c.last)
    where
      go : Along q.inserted q.insertion → Along q.reduced q.reduction → Along u q.dropping → {w : Term}
          → w ∈ terms pure q → P w
      go a b c here = x
      go a b c {w = w} (there i) =
          in_either w q.insertion (q.reduction ++ q.dropping) a.each
          (λ z j. in_either z q.reduction q.dropping b.each c.each j) i
