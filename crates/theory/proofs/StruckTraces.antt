-- Traces related by a drop: the second is the first with some calls struck out or none, and none of them acts.
use mathlib.Core.Path.{◌≡◌, refl, sym, ◌∙◌, ap, ap₂}
use mathlib.Core.List.{List, [], ◌++◌}
use Prim.Native.Nat.{ℕ}
use Rattle.syntax.specs.Tables.{acts}
use Rattle.syntax.specs.Lists.{Sublist}
use Rattle.syntax.proofs.Filters.{filter-append}
use Rattle.syntax.proofs.Sublists.{sublist_refl, sublist_join, sublist_skip, sublist_trans}
use Rattle.semantics.specs.Value.{Call, Trace}
use Rattle.semantics.specs.Claim.{acting_calls}

module _ (calls : List ℕ) where
  pub record Struck (c d : Trace) : Type 0 where
    pub sublist : Sublist d c
    pub acting : acting_calls calls d ≡ acting_calls calls c

  acting_append : (c d : Trace) → acting_calls calls (c ++ d) ≡ acting_calls calls c ++ acting_calls calls d
  acting_append c d = filter-append (λ (m : Call). acts calls m.number) c d

  pub struck_refl : (c : Trace) → Struck c c
  struck_refl c = record { sublist = sublist_refl c; acting = refl }

  pub struck_join : {a b c d : Trace} → Struck a b → Struck c d → Struck (a ++ c) (b ++ d)
  struck_join {a} {b} {c} {d} r s = record {
    sublist = sublist_join r.sublist s.sublist;
    acting = acting_append b d ∙ ap₂ ◌++◌ r.acting s.acting ∙ sym (acting_append a c);
  }

  pub struck_trans : {a b c : Trace} → Struck a b → Struck b c → Struck a c
  struck_trans r s = record { sublist = sublist_trans r.sublist s.sublist; acting = s.acting ∙ r.acting }

  -- what stands in front may be struck out, if none of it acts
  pub struck_skip : (a : Trace) {c d : Trace} → acting_calls calls a ≡ [] → Struck c d → Struck (a ++ c) d
  struck_skip a {c} {d} e r = record {
    sublist = sublist_skip a c d r.sublist;
    acting = r.acting ∙ ap (λ (x : Trace). x ++ acting_calls calls c) (sym e) ∙ sym (acting_append a c);
  }
