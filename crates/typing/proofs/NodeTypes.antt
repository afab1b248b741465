-- The list of node types has one entry for each node.
use mathlib.Core.Path.{◌≡◌, refl, sym, ◌∙◌, ap}
use mathlib.Core.List.{List, ◌∷◌, ◌++◌}
use mathlib.Core.Option.{Option, some, none}
use Prim.Native.Nat.{ℕ, suc, ◌+◌}
use lib.ListN.{length, length-append}
use Rattle.syntax.specs.Maybe.{◌>>=◌}
use Rattle.syntax.specs.Tables.{Tables, arrow, sum, components}
use Rattle.syntax.specs.Term.{Term, Terms, var, call, lam, app, bind, pair, fst, snd, inl, inr, case, unit, done, arg}
use Rattle.syntax.specs.Encoding.{encode, encode_all}
use Rattle.typing.specs.Infer.{Context, infer}
use Rattle.typing.specs.NodeTypes.{◌then◌, ◌and◌, node_types, node_types_all}

-- as many types as words, if there are any
pub data Matches (ws : List ℕ) : Option (List ℕ) → Type 0 where
  missing : Matches ws none
  matching : {As : List ℕ} → length As ≡ length ws → Matches ws (some As)

then_matches : (w : ℕ) {ws : List ℕ} (A : Option ℕ) {o : Option (List ℕ)} → Matches ws o → Matches (w ∷ ws) (A then o)
then_matches w none m = missing
then_matches w (some A) missing = missing
then_matches w (some A) (matching e) = matching (ap suc e)

and_matches : (us ws : List ℕ) {o p : Option (List ℕ)} → Matches us o → Matches ws p → Matches (us ++ ws) (o and p)
and_matches us ws missing q = missing
and_matches us ws (matching e) missing = missing
and_matches us ws (matching {As = As} e) (matching {As = Bs} f) = matching
    (length-append As Bs ∙ ap (λ (n : ℕ). n + length Bs) e ∙ ap (λ (n : ℕ). length us + n) f ∙ sym (length-append us ws))

bind_matches : {X : Type 0} (ws : List ℕ) (o : Option X) (f : X → Option (List ℕ)) → ((x : X) → Matches ws (f x)) → Matches ws (o >>= f)
bind_matches ws none f h = missing
bind_matches ws (some x) f h = h x

module _ (tables : Tables) where
  mutual
    unfolding node_types encode

    pub node_types_match : (t : Term) (Γ : Context) → Matches (encode t) (node_types tables t Γ)
    node_types_match (var n) Γ = then_matches _ (infer tables (var n) Γ) (matching refl)
    node_types_match (call k ts) Γ = then_matches _ (infer tables (call k ts) Γ) (node_types_match_all ts Γ)
    node_types_match (lam F b) Γ = then_matches _ (infer tables (lam F b) Γ)
        (bind_matches _ (components tables arrow F) _ (λ (A, B). node_types_match b (A ∷ Γ)))
    node_types_match (app f a) Γ = then_matches _ (infer tables (app f a) Γ)
        (and_matches (encode f) (encode a) (node_types_match f Γ) (node_types_match a Γ))
    node_types_match (bind e b) Γ = then_matches _ (infer tables (bind e b) Γ)
        (and_matches (encode e) (encode b) (node_types_match e Γ) (bind_matches _ (infer tables e Γ) _ (λ A. node_types_match b (A ∷ Γ))))
    node_types_match (pair P a b) Γ = then_matches _ (infer tables (pair P a b) Γ)
        (and_matches (encode a) (encode b) (node_types_match a Γ) (node_types_match b Γ))
    node_types_match (fst a) Γ = then_matches _ (infer tables (fst a) Γ) (node_types_match a Γ)
    node_types_match (snd a) Γ = then_matches _ (infer tables (snd a) Γ) (node_types_match a Γ)
    node_types_match (inl S a) Γ = then_matches _ (infer tables (inl S a) Γ) (node_types_match a Γ)
    node_types_match (inr S a) Γ = then_matches _ (infer tables (inr S a) Γ) (node_types_match a Γ)
    node_types_match (case s l r) Γ = then_matches _ (infer tables (case s l r) Γ)
        (and_matches (encode s) (encode l ++ encode r) (node_types_match s Γ)
        (bind_matches _ (infer tables s Γ) _
        (λ S. bind_matches _ (components tables sum S) _
        (λ (A, B). and_matches (encode l) (encode r) (node_types_match l (A ∷ Γ)) (node_types_match r (B ∷ Γ))))))
    node_types_match (unit U) Γ = then_matches _ (infer tables (unit U) Γ) (matching refl)

    pub node_types_match_all : (ts : Terms) (Γ : Context) → Matches (encode_all ts) (node_types_all tables ts Γ)
    node_types_match_all done Γ = matching refl
    node_types_match_all (arg t ts) Γ = and_matches (encode t) (encode_all ts) (node_types_match t Γ) (node_types_match_all ts Γ)
