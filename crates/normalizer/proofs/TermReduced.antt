-- A typed term is copied to the end of a scratch buffer and reduced there; what it comes to is the definition's.
use Prim.Native.Nat.{ℕ, ◌+◌, ◌-◌, ◌≤◌}
use native.Mathlib.Omega.{arith}
use mathlib.Core.Path.{◌≡◌, refl, sym, ap, ◌∙◌}
use mathlib.Core.List.{List, ◌++◌}
use lib.ListN.{length, take, drop}
use lib.Seq.{paste}
use Rattle.std.proofs.lemmas.Grind.{common_steps}
use Rattle.std.specs.Prelude.{Ok, Err}
use Rattle.syntax.specs.Term.{Term}
use Rattle.syntax.specs.Encoding.{encode, size}
use Rattle.syntax.specs.Shaped.{Shaped}
use Rattle.reduction.specs.MayDrop.{may_drop}
use Rattle.reduction.specs.declared.Settings.{Settings}
use Rattle.reduction.specs.Reduction.{reduce}
use Rattle.outcomes.specs.declared.Refusal.{Refusal}
use Rattle.outcomes.specs.Refusal.{number_of}
use Rattle.outcomes.specs.Buffers.{overwrite}
use Rattle.outcomes.specs.Normalize.{reduced_to}
use Rattle.outcomes.specs.declared.Answer.{Answer}
use Rattle.step.specs.Currents.{Current}
use Rattle.normalizer.specs.Reductions.{Reducible, Reports, Reduces}
use Rattle.normalizer.specs.Answers.{Settleable, Settles}
use Rattle.normalizer.specs.declared.reduce.Reduced.{Reduced}
use Rattle.step.proofs.GapMoved.{gapped_size}

-- words pasted at the front of a list
pub pasted_first : (l s : List ℕ) (n : ℕ) → paste l 0 s n ≡ take n s ++ drop n l
pasted_first l s n = let e : 0 + n ≡ n = omega arith in ap (λ (k : ℕ). take n s ++ drop k l) e

-- words copied to the end of a buffer
pub pasted_last : {calls words output first second : List ℕ} → Settleable calls words output first second → (b : List ℕ)
    → b ≡ paste first (length first - length words) (drop 0 words) (length words)
    → b ≡ take (length first - length words) first ++ (words ++ drop (length first - (length first - length words)) (drop (length first - length words) first))
pasted_last x b e = grind (arith, common_steps, x.small, e)

module _ {calls words output first second : List ℕ} (x : Settleable calls words output first second) {copied : List ℕ} (ce : copied ≡ words) where
  abbrev begin : ℕ
  begin = length first - length words

  abbrev start : List ℕ
  start = take begin first ++ (copied ++ drop (length first - begin) (drop begin first))

  same_long : length start ≡ length first
  same_long = grind (arith, common_steps, x.small)

  -- the copy
  placed : (t : Term) → Shaped calls t → words ≡ encode t → Current calls start 0 begin t
  placed t s e = grind (arith, common_steps, x.small)

  pub settle_reducible : (second' : List ℕ) → length second' ≡ length second → Reducible calls start begin second'
  settle_reducible second' l = record {
    term = x.term;
    typed = x.typed;
    current = placed x.term x.shaped x.is;
    at_most = omega (arith, same_long, x.at_most);
    scratch = l ∙ x.scratch ∙ sym same_long;
  }

  module _ {settings : Settings} {after : List ℕ} {r : Reduced} (y : Reduces calls start begin settings after r) where
    reported : (t : Term) → Shaped calls t → words ≡ encode t
        → Reports after r (reduce (may_drop calls) (length first) settings t)
    reported t s e = rw same_long at y.told t (placed t s e)

    -- stopped on the way
    pub settled_stopped : {why : Refusal} {A : ℕ} {a : Answer} → r.begin ≡ Err why
        → a ≡ record { refusal = number_of why; ty = 0; length = 0; counts = r.counts }
        → Settles calls words A settings (length first) output a output
    unfolding reduced_to overwrite
    settled_stopped e ae = record {
      told = λ t s is.
          let h = rw e at reported t s is in
          record { answer_is = rw h ae; output_is = rw h };
    }

    -- the last term is there, and has room in the output
    pub last_inside : {last : ℕ} → r.begin ≡ Ok last → length after ≡ length start → (last ≤ length after) × (length after - last ≤ length output)
    last_inside e l =
        let h = rw e at reported x.term x.shaped x.is in
        (h.gapped.inside, omega (arith, l, same_long, x.room))

    -- come through: the last term is copied to the output
    pub settled_ended : {last : ℕ} {A : ℕ} {form : List ℕ} → r.begin ≡ Ok last → form ≡ take (length after - last) (drop last after)
        → Settles calls words A settings (length first) output
        (record { refusal = 0; ty = A; length = length after - last; counts = r.counts }) (form ++ drop (length after - last) output)
    unfolding reduced_to overwrite size
    settled_ended {last} e fe = record {
      told = λ t s is.
          let h = rw e at reported t s is in
          let sized : length after - last ≡ length (encode h.term) = omega (arith, gapped_size h.gapped) in
          rw h.is (record { answer_is = rw sized refl; output_is = grind (arith, common_steps, h.gapped.words_are) });
    }

    pub settled_pasted : {last : ℕ} {A : ℕ} {out : List ℕ} → r.begin ≡ Ok last → out ≡ paste output 0 (drop last after) (length after - last)
        → Settles calls words A settings (length first) output
        (record { refusal = 0; ty = A; length = length after - last; counts = r.counts }) out
    settled_pasted {last} e oe = rw (oe ∙ pasted_first output (drop last after) (length after - last)) (settled_ended e refl)
