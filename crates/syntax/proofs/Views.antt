-- Views: what `as_lam`, `as_bind` and the others answer is what the term is made of, because a term is its node.
use mathlib.Core.Path.{◌≡◌, refl, sym, ◌∙◌, ap}
use lib.Dec.{eqb, eqb→eq}
use Prim.Native.Nat.{ℕ, zero, suc}
use Rattle.syntax.specs.Term.{Term, Terms, var, call, lam, app, bind, pair, fst, snd, inl, inr, case, unit, done, arg, node, one, two}
use Rattle.syntax.specs.Term.{three, parts_of, as_var, as_lam, as_app, as_bind, as_pair, as_fst, as_snd, as_inl, as_inr, as_case}
use Rattle.syntax.proofs.Options.{Every, every_none, every_some, every_bind, every_given, every_to}

-- a node as a term (where the parts are not as many as the kind has, any term)
abbrev one_part : (Term → Term) → Terms → Term
one_part f done = var 0
one_part f (arg a ts) = f a

abbrev two_parts : (Term → Term → Term) → Terms → Term
two_parts f done = var 0
two_parts f (arg a done) = var 0
two_parts f (arg a (arg b ts)) = f a b

abbrev three_parts : (Term → Term → Term → Term) → Terms → Term
three_parts f done = var 0
three_parts f (arg a done) = var 0
three_parts f (arg a (arg b done)) = var 0
three_parts f (arg a (arg b (arg c ts))) = f a b c

unfoldable build : ℕ → ℕ → ℕ → Terms → Term
build zero n A ts = var n
build (suc zero) n A ts = call n ts
build (suc (suc zero)) n A ts = one_part (lam A) ts
build (suc (suc (suc zero))) n A ts = two_parts app ts
build (suc (suc (suc (suc zero)))) n A ts = two_parts bind ts
build (suc (suc (suc (suc (suc zero))))) n A ts = two_parts (pair A) ts
build (suc (suc (suc (suc (suc (suc zero)))))) n A ts = one_part fst ts
build (suc (suc (suc (suc (suc (suc (suc zero))))))) n A ts = one_part snd ts
build (suc (suc (suc (suc (suc (suc (suc (suc zero)))))))) n A ts = one_part (inl A) ts
build (suc (suc (suc (suc (suc (suc (suc (suc (suc zero))))))))) n A ts = one_part (inr A) ts
build (suc (suc (suc (suc (suc (suc (suc (suc (suc (suc zero)))))))))) n A ts = three_parts case ts
build (suc (suc (suc (suc (suc (suc (suc (suc (suc (suc (suc zero))))))))))) n A ts = unit A
build (suc (suc (suc (suc (suc (suc (suc (suc (suc (suc (suc (suc k)))))))))))) n A ts = var 0

-- a term is its node
build_node : (t : Term) → build (node t).kind (node t).number (node t).type (node t).parts ≡ t
unfolding build node
build_node (var n) = refl
build_node (call k ts) = refl
build_node (lam A b) = refl
build_node (app f a) = refl
build_node (bind e b) = refl
build_node (pair A a b) = refl
build_node (fst a) = refl
build_node (snd a) = refl
build_node (inl A a) = refl
build_node (inr A a) = refl
build_node (case s l r) = refl
build_node (unit A) = refl

one_is : (ts : Terms) → Every (λ a. ts ≡ arg a done) (one ts)
one_is done = every_none
one_is (arg a done) = every_some refl
one_is (arg a (arg b ts)) = every_none

two_is : (ts : Terms) → Every (λ p. ts ≡ arg p.0 (arg p.1 done)) (two ts)
two_is done = every_none
two_is (arg a done) = every_none
two_is (arg a (arg b done)) = every_some refl
two_is (arg a (arg b (arg c ts))) = every_none

three_is : (ts : Terms) → Every (λ p. ts ≡ arg p.0 (arg p.1 (arg p.2 done))) (three ts)
three_is done = every_none
three_is (arg a done) = every_none
three_is (arg a (arg b done)) = every_none
three_is (arg a (arg b (arg c done))) = every_some refl
three_is (arg a (arg b (arg c (arg d ts)))) = every_none

-- the node's kind and parts
parts_is : (k : ℕ) (t : Term) → Every (λ ts. t ≡ build k (node t).number (node t).type ts) (parts_of k t)
unfolding parts_of
parts_is k t = every_given (eqb (node t).kind k) (node t).parts λ h. sym (build_node t)
    ∙ ap (λ (j : ℕ). build j (node t).number (node t).type (node t).parts) (eqb→eq (node t).kind k h)

pub var_is : (t : Term) → Every (λ n. t ≡ var n) (as_var t)
unfolding as_var build
var_is t = every_given (eqb (node t).kind 0) (node t).number λ h. sym (build_node t)
    ∙ ap (λ (j : ℕ). build j (node t).number (node t).type (node t).parts) (eqb→eq (node t).kind 0 h)

pub lam_is : (t : Term) → Every (λ x. t ≡ lam (node t).type x) (as_lam t)
unfolding as_lam build
lam_is t = every_bind one (parts_is 2 t) λ ts e. every_to (λ x d. e ∙ ap (build 2 (node t).number (node t).type) d) (one_is ts)

pub fst_is : (t : Term) → Every (λ x. t ≡ fst x) (as_fst t)
unfolding as_fst build
fst_is t = every_bind one (parts_is 6 t) λ ts e. every_to (λ x d. e ∙ ap (build 6 (node t).number (node t).type) d) (one_is ts)

pub snd_is : (t : Term) → Every (λ x. t ≡ snd x) (as_snd t)
unfolding as_snd build
snd_is t = every_bind one (parts_is 7 t) λ ts e. every_to (λ x d. e ∙ ap (build 7 (node t).number (node t).type) d) (one_is ts)

pub inl_is : (t : Term) → Every (λ x. t ≡ inl (node t).type x) (as_inl t)
unfolding as_inl build
inl_is t = every_bind one (parts_is 8 t) λ ts e. every_to (λ x d. e ∙ ap (build 8 (node t).number (node t).type) d) (one_is ts)

pub inr_is : (t : Term) → Every (λ x. t ≡ inr (node t).type x) (as_inr t)
unfolding as_inr build
inr_is t = every_bind one (parts_is 9 t) λ ts e. every_to (λ x d. e ∙ ap (build 9 (node t).number (node t).type) d) (one_is ts)

pub app_is : (t : Term) → Every (λ x. t ≡ app x.0 x.1) (as_app t)
unfolding as_app build
app_is t = every_bind two (parts_is 3 t) λ ts e. every_to (λ x d. e ∙ ap (build 3 (node t).number (node t).type) d) (two_is ts)

pub bind_is : (t : Term) → Every (λ x. t ≡ bind x.0 x.1) (as_bind t)
unfolding as_bind build
bind_is t = every_bind two (parts_is 4 t) λ ts e. every_to (λ x d. e ∙ ap (build 4 (node t).number (node t).type) d) (two_is ts)

pub pair_is : (t : Term) → Every (λ x. t ≡ pair (node t).type x.0 x.1) (as_pair t)
unfolding as_pair build
pair_is t = every_bind two (parts_is 5 t) λ ts e. every_to (λ x d. e ∙ ap (build 5 (node t).number (node t).type) d) (two_is ts)

pub case_is : (t : Term) → Every (λ x. t ≡ case x.0 x.1 x.2) (as_case t)
unfolding as_case build
case_is t = every_bind three (parts_is 10 t) λ ts e. every_to (λ x d. e ∙ ap (build 10 (node t).number (node t).type) d) (three_is ts)
