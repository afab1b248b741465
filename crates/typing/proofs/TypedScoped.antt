-- A term that has a type is in scope: a variable's type is looked up in the context, which grows by one under each binder. So check 9
-- refuses whatever check 8 refuses.
use mathlib.Core.Path.{◌≡◌, refl}
use mathlib.Core.Bool.{true}
use mathlib.Core.List.{List}
use mathlib.Core.Option.{some}
use lib.ListN.{length}
use Prim.Native.Nat.{ℕ, suc}
use native.Mathlib.Nat.{add-zero}
use native.Mathlib.Numerals.{add-one}
use borrow.Author.Tests.{lt-ltb}
use Rattle.syntax.specs.Kinds.{binders_at}
use Rattle.syntax.specs.Tables.{Tables}
use Rattle.syntax.specs.Term.{Term, Terms, node, as_var}
use Rattle.typing.specs.Infer.{Context, infer}
use Rattle.typing.specs.TermChecks.{scoped_at, scoped}
use Rattle.typing.proofs.Typing.{at_below, Typed, TypedAll, t_var, t_call, t_lam, t_app, t_bind, t_pair, t_fst, t_snd, t_inl}
use Rattle.typing.proofs.Typing.{t_inr, t_case, t_unit, t_done, t_arg}
use Rattle.typing.proofs.InferTyped.{typing_of}
use Rattle.typing.proofs.ScopedNode.{scoped_parts, scoped_node}

module _ (tables : Tables) (ok : ℕ → Type 0) where
  mutual
    unfolding scoped_parts binders_at node as_var

    typed_scoped : {Γ : Context} {t : Term} {A : ℕ} → Typed tables ok Γ t A → scoped_at (length Γ) t ≡ true
    typed_scoped {Γ} {t} (t_var x) = rw (scoped_node (length Γ) t) (simp (lt-ltb _ (length Γ) (at_below x)))
    typed_scoped {Γ} {t} (t_call z e d xs) = rw (scoped_node (length Γ) t) (typed_scoped_all xs 0)
    typed_scoped {Γ} {t} (t_lam o x) = rw (scoped_node (length Γ) t) (simp (add-one, typed_scoped x))
    typed_scoped {Γ} {t} (t_app o x y) = rw (scoped_node (length Γ) t) (simp (add-zero, typed_scoped x, typed_scoped y))
    typed_scoped {Γ} {t} (t_bind x y) = rw (scoped_node (length Γ) t) (simp (add-zero, add-one, typed_scoped x, typed_scoped y))
    typed_scoped {Γ} {t} (t_pair o x y) = rw (scoped_node (length Γ) t) (simp (add-zero, typed_scoped x, typed_scoped y))
    typed_scoped {Γ} {t} (t_fst o x) = rw (scoped_node (length Γ) t) (simp (add-zero, typed_scoped x))
    typed_scoped {Γ} {t} (t_snd o x) = rw (scoped_node (length Γ) t) (simp (add-zero, typed_scoped x))
    typed_scoped {Γ} {t} (t_inl o x) = rw (scoped_node (length Γ) t) (simp (add-zero, typed_scoped x))
    typed_scoped {Γ} {t} (t_inr o x) = rw (scoped_node (length Γ) t) (simp (add-zero, typed_scoped x))
    typed_scoped {Γ} {t} (t_case o x y z) =
        rw (scoped_node (length Γ) t) (simp (add-zero, add-one, typed_scoped x, typed_scoped y, typed_scoped z))
    typed_scoped {Γ} {t} (t_unit o) = scoped_node (length Γ) t

    typed_scoped_all : {Γ : Context} {ts : Terms} {As : List ℕ} → TypedAll tables ok Γ ts As → (j : ℕ) → scoped_parts (length Γ) 1 j ts ≡ true
    typed_scoped_all t_done j = refl
    typed_scoped_all (t_arg x xs) j = simp (add-zero, typed_scoped x, typed_scoped_all xs (suc j))

pub infer_scoped : (tables : Tables) (t : Term) (Γ : Context) (A : ℕ) → infer tables t Γ ≡ some A → scoped_at (length Γ) t ≡ true
infer_scoped tables t Γ A e = typed_scoped tables (λ k. Unit) (typing_of tables (λ k. Unit) t Γ A e (λ k i. tt))

-- over the inputs, as check 8 asks it
pub type_scoped : (tables : Tables) (t : Term) (A : ℕ) → infer tables t tables.inputs ≡ some A → scoped tables t ≡ true
unfolding scoped
type_scoped tables t A e = infer_scoped tables t tables.inputs A e
