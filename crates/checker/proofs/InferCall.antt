-- A call's type from its arguments' types: up to three arguments are typed and compared, and more than three fit no signature.
use mathlib.Core.Path.{◌≡◌, refl, sym, ◌∙◌, ap}
use mathlib.Core.Bool.{Bool, false, ◌&&◌, and-false}
use mathlib.Core.List.{List, [], ◌∷◌}
use mathlib.Core.Option.{Option, some, none, some-injective, none-ne-some}
use Prim.Native.Nat.{ℕ, suc, ◌≤◌, ◌<◌}
use native.Mathlib.Omega.{arith}
use lib.Dec.{eqb}
use lib.ListN.{length, take, get_elem?, length-take}
use Rattle.syntax.specs.Maybe.{◌>>=◌, given}
use Rattle.syntax.specs.Words.{arity_of, argument_fields}
use Rattle.syntax.specs.Tables.{Tables, Signature, signature_of, signature, arity}
use Rattle.syntax.specs.Term.{Terms, call, done, arg}
use Rattle.syntax.specs.Kinds.{binders_at}
use Rattle.syntax.specs.Shaped.{count}
use Rattle.typing.specs.Infer.{Context, equal, infer, infer_all}
use Rattle.checker.specs.Nodes.{call_type}
use Rattle.checker.proofs.PartTypes.{infer_parts}
use Rattle.checker.proofs.Clauses.{one, two, three}

-- the definition, from the signature and the arguments' types
abbrev of_types : Option Signature → Option (List ℕ) → Option ℕ
of_types s As = s >>= λ s. As >>= λ As. given (equal As s.arguments) s.result

-- the same from the first n of three types
abbrev of_three : Option Signature → ℕ → Option (List ℕ) → Option ℕ
of_three s n G = G >>= λ G. s >>= λ s. given (equal (take n G) s.arguments) s.result

-- types in a row
abbrev more : Option ℕ → Option (List ℕ) → Option (List ℕ)
more o os = o >>= λ A. os >>= λ As. some (A ∷ As)

args_0 : (s : Option Signature) (n : ℕ) → n ≡ 0 → of_types s (some []) ≡ of_three s n (some (0 ∷ 0 ∷ 0 ∷ []))
args_0 none n e = refl
args_0 (some s) n e = rw e

args_1 : (s : Option Signature) (o : Option ℕ) (n : ℕ) → n ≡ 1 → of_types s (more o (some [])) ≡ of_three s n (one o)
args_1 none none n e = refl
args_1 none (some A) n e = refl
args_1 (some s) none n e = refl
args_1 (some s) (some A) n e = rw e

args_2 : (s : Option Signature) (o p : Option ℕ) (n : ℕ) → n ≡ 2
    → of_types s (more o (more p (some []))) ≡ of_three s n (two o (λ _. p))
args_2 none none p n e = refl
args_2 none (some A) none n e = refl
args_2 none (some A) (some B) n e = refl
args_2 (some s) none p n e = refl
args_2 (some s) (some A) none n e = refl
args_2 (some s) (some A) (some B) n e = rw e

args_3 : (s : Option Signature) (o p q : Option ℕ) (n : ℕ) → n ≡ 3
    → of_types s (more o (more p (more q (some [])))) ≡ of_three s n (three o (λ _. p) (λ _. q))
args_3 none none p q n e = refl
args_3 none (some A) none q n e = refl
args_3 none (some A) (some B) none n e = refl
args_3 none (some A) (some B) (some D) n e = refl
args_3 (some s) none p q n e = refl
args_3 (some s) (some A) none q n e = refl
args_3 (some s) (some A) (some B) none n e = refl
args_3 (some s) (some A) (some B) (some D) n e = rw e

-- more types than three are not the listed ones
longer : (As Bs : List ℕ) → length Bs < length As → equal As Bs ≡ false
longer [] Bs h = absurd (omega arith)
longer (A ∷ As) [] h = refl
longer (A ∷ As) (B ∷ Bs) h = ap (λ (b : Bool). eqb A B && b) (longer As Bs (omega arith)) ∙ and-false (eqb A B)

too_long : (o : Option ℕ) (q : Option (List ℕ)) → ((As : List ℕ) → q ≡ some As → 3 < length As)
    → of_types (o >>= λ w. some (signature_of w)) q ≡ none
too_long none q h = refl
too_long (some w) none h = refl
too_long (some w) (some As) h = ap (λ (b : Bool). given b (signature_of w).result)
    (longer As (take (arity_of w) (argument_fields w)) (omega (arith, h As refl, length-take (arity_of w) (argument_fields w))))

module _ (tables : Tables) where
  all_typed : (ts : Terms) (Γ : Context) (As : List ℕ) → infer_all tables ts Γ ≡ some As → length As ≡ count ts
  unfolding infer count
  all_typed done Γ As e = sym (ap length (some-injective [] As e))
  all_typed (arg t ts) Γ As e = go (infer tables t Γ) (infer_all tables ts Γ) refl e (all_typed ts Γ)
    where
      go : (o : Option ℕ) (p : Option (List ℕ)) → infer_all tables ts Γ ≡ p → more o p ≡ some As
          → ((Bs : List ℕ) → infer_all tables ts Γ ≡ some Bs → length Bs ≡ count ts) → length As ≡ suc (count ts)
      go none p d e' ih = absurd (none-ne-some As e')
      go (some A) none d e' ih = absurd (none-ne-some As e')
      go (some A) (some Bs) d e' ih = sym (ap length (some-injective (A ∷ Bs) As e')) ∙ ap suc (ih Bs d)

  pub infer_long_call : (k : ℕ) (ts : Terms) (Γ : Context) → 3 < count ts → infer tables (call k ts) Γ ≡ none
  unfolding infer
  infer_long_call k ts Γ h = too_long (get_elem? tables.calls k) (infer_all tables ts Γ) (λ As e. omega (arith, all_typed ts Γ As e))

  pub infer_call : (k : ℕ) (ts : Terms) (Γ : Context) → arity tables.calls k ≡ count ts → count ts ≤ 3
      → infer tables (call k ts) Γ ≡ (infer_parts tables 1 0 Γ ts 0 (0 ∷ 0 ∷ 0 ∷ []) >>= call_type tables k)
  unfolding infer call_type infer_parts binders_at count
  infer_call k done Γ e l = args_0 (signature tables k) _ e
  infer_call k (arg a done) Γ e l = args_1 (signature tables k) (infer tables a Γ) _ e
  infer_call k (arg a (arg b done)) Γ e l = args_2 (signature tables k) (infer tables a Γ) (infer tables b Γ) _ e
  infer_call k (arg a (arg b (arg c done))) Γ e l =
      args_3 (signature tables k) (infer tables a Γ) (infer tables b Γ) (infer tables c Γ) _ e
  infer_call k (arg a (arg b (arg c (arg d ts)))) Γ e l = absurd (omega arith)
