-- Request P1's law: an input that a term does not read is read by no term of its reduction sequence, and stays unmarked for the words that
-- `normalize` hands back. For a step uses no new variable.
use mathlib.Core.Path.{◌≡◌, refl, sym, ◌∙◌, ap, subst}
use mathlib.Core.Bool.{Bool, false}
use mathlib.Core.List.{List}
use lib.Dec.{ltb}
use lib.ListN.{take}
use borrow.Author.Tests.{ltb-false}
use Prim.Native.Nat.{ℕ, ◌≤◌, ◌<◌}
use native.Mathlib.Omega.{arith}
use Rattle.syntax.specs.Lists.{◌∈◌}
use Rattle.syntax.specs.Tables.{Tables}
use Rattle.syntax.specs.Term.{Term}
use Rattle.syntax.specs.Encoding.{encode, size}
use Rattle.syntax.specs.Values.{counts, uses}
use Rattle.typing.specs.Refusals.{accepted, TypedTerm, elaborate, normalize_limit, other_limit}
use Rattle.reduction.specs.MayDrop.{may_drop}
use Rattle.reduction.specs.Sequence.{Sequence, terms}
use Rattle.reduction.specs.declared.Settings.{Settings}
use Rattle.reduction.specs.Reduction.{Counts, reached, reduce}
use Rattle.reduction.proofs.Exact.{Exact, reduce_exact}
use Rattle.reduction.proofs.StepUses.{step_uses}
use Rattle.reduction.proofs.AlongSequence.{every_term}
use Rattle.outcomes.proofs.Marks.{mark_at}
use Rattle.outcomes.specs.FreeInputs.{reads, free_inputs_outcome}
use Rattle.outcomes.specs.Normalize.{Buffers, capacity_of, normalize_outcome}
use Rattle.outcomes.specs.declared.FreeInputs.{FreeInputs}
use Rattle.typing.proofs.Accepted.{accepted_passed}
use Rattle.typing.proofs.Encoding.{encode-decode}
use Rattle.syntax.proofs.Options.{counts_is_0}
use Rattle.theory.proofs.ReadInputs.{accepted_marks, mark_reads}
use Rattle.theory.proofs.AcceptedAgain.{accepted_longer, accepted_again}
use Rattle.theory.proofs.ClaimHolds.{last, came}
use Rattle.theory.proofs.ContractHolds.{capacity_bounded, handed_back}

-- a term reads an input exactly if it uses its variable
unread_unused : (t : Term) (i : ℕ) → reads t i ≡ false → uses t i ≡ 0
unfolding reads
unread_unused t i e = omega (arith, ltb-false 0 (uses t i) e)

unused_unread : (t : Term) (i : ℕ) → uses t i ≡ 0 → reads t i ≡ false
unfolding reads
unused_unread t i e = ap (ltb 0) e

-- every term of the sequence, and its last
pub unread_between : (pure : Term → Bool) {t u : Term} (q : Sequence pure t u) (i : ℕ) → reads t i ≡ false
    → ((w : Term) → w ∈ terms pure q → reads w i ≡ false) × (reads u i ≡ false)
unread_between pure {t} {u} q i e =
    let k = every_term pure (λ w. uses w i ≡ 0) (λ phase t s d z. step_uses pure phase t s d i z) q (unread_unused t i e) in
    (λ w m. unused_unread w i (k.0 w m), unused_unread u i k.1)

-- What the marks of a source say of its reduction sequence: `free_inputs` accepts the source's words and those handed back, and an input
-- that is unmarked for the source's words is read by no term of the sequence and is unmarked for the words handed back.
pub record StaysUnread (tables : Tables) (words result : List ℕ) : Type 0 where
  pub source : Term
  pub normal : Term
  pub sequence : Sequence (may_drop tables.calls) source normal
  pub source_words : words ≡ encode source
  pub normal_words : result ≡ encode normal
  pub source_accepted : (free_inputs_outcome tables words).refusal ≡ 0
  pub normal_accepted : (free_inputs_outcome tables result).refusal ≡ 0
  pub between : (i : ℕ) → i < 256 → mark_at (free_inputs_outcome tables words).marks i ≡ 0
      → (w : Term) → w ∈ terms (may_drop tables.calls) sequence → reads w i ≡ false
  pub unmarked : (i : ℕ) → i < 256 → mark_at (free_inputs_outcome tables words).marks i ≡ 0
      → mark_at (free_inputs_outcome tables result).marks i ≡ 0

-- of a reduction that came through
unread_came : (settings : Settings) (tables : Tables) (words : List ℕ) (before : Buffers) (x : TypedTerm) (left : ℕ) (u : Term)
    (c : Counts) → elaborate normalize_limit tables words ≡ accepted x
    → reduce (may_drop tables.calls) (capacity_of before) settings x.term ≡ reached left u c → StaysUnread tables words (encode u)
unread_came settings tables words before x left u c e r =
    let pure = may_drop tables.calls in
    let p = accepted_passed normalize_limit tables words x e in
    let capacity = capacity_of before in
    let g = came (subst (Exact pure capacity settings x.term) r (reduce_exact pure capacity settings x.term)) in
    let z = last tables pure x.type x.term u p.type g.sequence in
    let source = accepted_longer normalize_limit other_limit tables words x p (omega arith) in
    let fits : size u ≤ other_limit = omega (arith, g.fits, capacity_bounded before) in
    let normal = accepted_again normalize_limit other_limit tables words x u p z.type fits (omega arith) in
    let unread : (i : ℕ) → i < 256 → mark_at (free_inputs_outcome tables words).marks i ≡ 0 → reads x.term i ≡ false =
    λ i l m. counts_is_0 (reads x.term i) (sym (mark_reads tables words x source i l) ∙ m) in
    record {
      source = x.term;
      normal = u;
      sequence = g.sequence;
      source_words = sym (encode-decode tables words p.words' x.term p.term);
      normal_words = refl;
      source_accepted = ap (λ (o : FreeInputs). o.refusal) (accepted_marks tables words x source);
      normal_accepted = ap (λ (o : FreeInputs). o.refusal) (accepted_marks tables (encode u) _ normal);
      between = λ i l m. (unread_between pure g.sequence i (unread i l m)).0;
      unmarked = λ i l m.
          mark_reads tables (encode u) _ normal i l ∙ ap counts (unread_between pure g.sequence i (unread i l m)).1;
    }

-- for every accepted outcome of `normalize`: an input unmarked for the source's words is unmarked for the normal form's words
pub unread_stays : (settings : Settings) (tables : Tables) (words : List ℕ) (before : Buffers)
    → let o = normalize_outcome settings tables words before in
    o.answer.refusal ≡ 0 → StaysUnread tables words (take o.answer.length o.buffers.output)
unread_stays settings tables words before =
    handed_back settings tables words before (λ A result. StaysUnread tables words result) (unread_came settings tables words before)
