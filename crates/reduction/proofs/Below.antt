-- What holds of the nodes before an index is kept by a step there, except near it: the nodes that end before the index stay, and the nodes
-- around it keep the property by assumption, where they begin more than g words before.
use mathlib.Core.Path.{◌≡◌, refl, sym, ◌∙◌, ap, subst}
use mathlib.Core.List.{List, [], ◌∷◌, ◌++◌}
use mathlib.Core.Option.{Option, some, none, map, some-injective, none-ne-some}
use Prim.Native.Nat.{ℕ, zero, suc, ◌+◌, ◌≤◌, ◌<◌}
use native.Mathlib.Omega.{arith}
use lib.ListN.{length, get_elem?, length-append}
use Rattle.syntax.specs.Term.{Term, Terms}
use Rattle.syntax.specs.Encoding.{size}
use Rattle.syntax.specs.Positions.{Position, positions}
use Rattle.syntax.proofs.Subterms.{nodes, nodes_all, length_nodes, node_at}
use Rattle.reduction.proofs.Places.{At, AtAll, a_root, a_call, a_lam, a_app₁, a_app₂, a_bind₁, a_bind₂, a_pair₁, a_pair₂, a_fst}
use Rattle.reduction.proofs.Places.{a_snd, a_inl, a_inr, a_case₁, a_case₂, a_case₃, a_this, a_next}

-- P holds of the members more than g places before index i
pub record Below (P : Term → Type 0) (g i : ℕ) (ts : List Term) : Type 0 where
  pub holds : (k : ℕ) (t : Term) → k + g < i → get_elem? ts k ≡ some t → P t

member_left : (ts us : List Term) (k : ℕ) (t : Term) → get_elem? ts k ≡ some t → get_elem? (ts ++ us) k ≡ some t
member_left [] us k t e = absurd (none-ne-some t e)
member_left (x ∷ ts) us zero t e = e
member_left (x ∷ ts) us (suc k) t e = member_left ts us k t e

left_member : (ts us : List Term) (k : ℕ) (t : Term) → k < length ts → get_elem? (ts ++ us) k ≡ some t → get_elem? ts k ≡ some t
left_member [] us k t l e = absurd (omega arith)
left_member (x ∷ ts) us zero t l e = e
left_member (x ∷ ts) us (suc k) t l e = left_member ts us k t (omega arith) e

module _ (P : Term → Type 0) (g : ℕ) where
  -- from the nodes of a list to the nodes of another
  abbrev Keeps : ℕ → List Term → List Term → Type 0
  Keeps i ts us = Below P 0 i ts → Below P g i us

  at_index : (ts us : List Term) (i j : ℕ) → i ≡ j → Keeps j ts us → Keeps i ts us
  at_index ts us i j e h = subst (λ (n : ℕ). Keeps n ts us) (sym e) h

  -- behind a node
  behind : (t u : Term) (ts us : List Term) (i j : ℕ) → i ≡ 1 + j → (g < i → P t → P u) → Keeps j ts us → Keeps i (t ∷ ts) (u ∷ us)
  behind t u ts us i j e f h b = record { holds = go }
    where
      tail : Below P 0 j ts
      tail = record { holds = λ k x l d. b.holds (suc k) x (omega arith) d }

      go : (k : ℕ) (x : Term) → k + g < i → get_elem? (u ∷ us) k ≡ some x → P x
      go zero x l d = subst P (some-injective u x d) (f (omega arith) (b.holds 0 t (omega arith) refl))
      go (suc k) x l d = (h tail).holds k x (omega arith) d

  -- in the first part
  in_first : (ts us vs : List Term) (i : ℕ) → i ≤ length us → Keeps i ts us → Keeps i (ts ++ vs) (us ++ vs)
  in_first ts us vs i l h b = record { holds = λ k x m d. (h first).holds k x m (left_member us vs k x (omega arith) d) }
    where
      first : Below P 0 i ts
      first = record { holds = λ k x m d. b.holds k x m (member_left ts vs k x d) }

  -- behind parts
  behind_parts : (ts us vs : List Term) (i j : ℕ) → i ≡ length ts + j → Keeps j us vs → Keeps i (ts ++ us) (ts ++ vs)
  behind_parts [] us vs i j e h b = at_index us vs i j (e ∙ omega arith) h b
  behind_parts (t ∷ ts) us vs i j e h b = behind t t (ts ++ us) (ts ++ vs) i (length ts + j) (e ∙ omega arith) (λ l p. p)
      (behind_parts ts us vs (length ts + j) j refl h) b

  -- behind a part, which takes as many words as it has nodes
  past : (t : Term) (us vs : List Term) (i j : ℕ) → i ≡ size t + j → Keeps j us vs → Keeps i (nodes t ++ us) (nodes t ++ vs)
  past t us vs i j e h = behind_parts (nodes t) us vs i j (e ∙ ap (λ (n : ℕ). n + j) (sym (length_nodes t))) h

-- a step's index is an index of the term after it
module _ {R : Term → Term → Type 0} where
  mutual
    unfolding nodes

    within : {t t' : Term} {i : ℕ} → At R t i t' → i ≤ length (nodes t')
    within (a_root e r) = omega arith
    within (a_call e s) = let h = within_all s in omega arith
    within (a_lam e s) = let h = within s in omega arith
    within (a_app₁ {a' = a'} {b = b} e s) = let h = within s in let l = length-append (nodes a') (nodes b) in omega arith
    within (a_app₂ {a = a} {b' = b'} e s) =
        let h = within s in let l = length-append (nodes a) (nodes b') in let m = length_nodes a in omega arith
    within (a_bind₁ {a' = a'} {b = b} e s) = let h = within s in let l = length-append (nodes a') (nodes b) in omega arith
    within (a_bind₂ {a = a} {b' = b'} e s) =
        let h = within s in let l = length-append (nodes a) (nodes b') in let m = length_nodes a in omega arith
    within (a_pair₁ {a' = a'} {b = b} e s) = let h = within s in let l = length-append (nodes a') (nodes b) in omega arith
    within (a_pair₂ {a = a} {b' = b'} e s) =
        let h = within s in let l = length-append (nodes a) (nodes b') in let m = length_nodes a in omega arith
    within (a_fst e s) = let h = within s in omega arith
    within (a_snd e s) = let h = within s in omega arith
    within (a_inl e s) = let h = within s in omega arith
    within (a_inr e s) = let h = within s in omega arith
    within (a_case₁ {s' = c} {l = l} {r = r} e s) = let h = within s in let x = length-append (nodes c) (nodes l ++ nodes r) in omega arith
    within (a_case₂ {s = c} {l' = l} {r = r} e s) =
        let h = within s in let x = length-append (nodes c) (nodes l ++ nodes r) in let y = length-append (nodes l) (nodes r) in
        let m = length_nodes c in omega arith
    within (a_case₃ {s = c} {l = l} {r' = r} e s) =
        let h = within s in let x = length-append (nodes c) (nodes l ++ nodes r) in let y = length-append (nodes l) (nodes r) in
        let m = length_nodes c in let n = length_nodes l in omega arith

    within_all : {ts us : Terms} {i : ℕ} → AtAll R ts i us → i ≤ length (nodes_all us)
    within_all (a_this {t' = t'} {ts = ts} e s) = let h = within s in let l = length-append (nodes t') (nodes_all ts) in omega arith
    within_all (a_next {t = t} {us = us} e s) =
        let h = within_all s in let l = length-append (nodes t) (nodes_all us) in let m = length_nodes t in omega arith

module _ (P : Term → Type 0) (R : Term → Term → Type 0) (g : ℕ)
    (around : (t t' : Term) (i : ℕ) → At R t i t' → g < i → P t → P t') where
  mutual
    unfolding nodes

    kept : {t t' : Term} {i : ℕ} → At R t i t' → Keeps P g i (nodes t) (nodes t')
    kept (a_root e r) = λ b. record { holds = λ k x l d. absurd (omega arith) }
    kept (a_call e s) = behind P g _ _ _ _ _ _ e (around _ _ _ (a_call e s)) (kept_all s)
    kept (a_lam e s) = behind P g _ _ _ _ _ _ e (around _ _ _ (a_lam e s)) (kept s)
    kept (a_app₁ e s) = behind P g _ _ _ _ _ _ e (around _ _ _ (a_app₁ e s)) (in_first P g _ _ _ _ (within s) (kept s))
    kept (a_app₂ {a = a} e s) = behind P g _ _ _ _ _ _ (e ∙ omega arith) (around _ _ _ (a_app₂ e s)) (past P g a _ _ _ _ refl (kept s))
    kept (a_bind₁ e s) = behind P g _ _ _ _ _ _ e (around _ _ _ (a_bind₁ e s)) (in_first P g _ _ _ _ (within s) (kept s))
    kept (a_bind₂ {a = a} e s) = behind P g _ _ _ _ _ _ (e ∙ omega arith) (around _ _ _ (a_bind₂ e s)) (past P g a _ _ _ _ refl (kept s))
    kept (a_pair₁ e s) = behind P g _ _ _ _ _ _ e (around _ _ _ (a_pair₁ e s)) (in_first P g _ _ _ _ (within s) (kept s))
    kept (a_pair₂ {a = a} e s) = behind P g _ _ _ _ _ _ (e ∙ omega arith) (around _ _ _ (a_pair₂ e s)) (past P g a _ _ _ _ refl (kept s))
    kept (a_fst e s) = behind P g _ _ _ _ _ _ e (around _ _ _ (a_fst e s)) (kept s)
    kept (a_snd e s) = behind P g _ _ _ _ _ _ e (around _ _ _ (a_snd e s)) (kept s)
    kept (a_inl e s) = behind P g _ _ _ _ _ _ e (around _ _ _ (a_inl e s)) (kept s)
    kept (a_inr e s) = behind P g _ _ _ _ _ _ e (around _ _ _ (a_inr e s)) (kept s)
    kept (a_case₁ e s) = behind P g _ _ _ _ _ _ e (around _ _ _ (a_case₁ e s)) (in_first P g _ _ _ _ (within s) (kept s))
    kept (a_case₂ {s = c} e s) = behind P g _ _ _ _ _ _ (e ∙ omega arith) (around _ _ _ (a_case₂ e s))
        (past P g c _ _ _ _ refl (in_first P g _ _ _ _ (within s) (kept s)))
    kept (a_case₃ {s = c} {l = l} e s) = behind P g _ _ _ _ _ _ (e ∙ omega arith) (around _ _ _ (a_case₃ e s))
        (past P g c _ _ _ _ refl (past P g l _ _ _ _ refl (kept s)))

    kept_all : {ts us : Terms} {i : ℕ} → AtAll R ts i us → Keeps P g i (nodes_all ts) (nodes_all us)
    kept_all (a_this e s) = at_index P g _ _ _ _ (e ∙ omega arith) (in_first P g _ _ _ _ (within s) (kept s))
    kept_all (a_next {t = t} e s) = past P g t _ _ _ _ e (kept_all s)

  pub kept_before : (t t' : Term) (i : ℕ) → At R t i t'
      → ((j : ℕ) (p : Position Term) → j < i → get_elem? (positions t) j ≡ some p → P p.subterm)
      → (j : ℕ) (p : Position Term) → j + g < i → get_elem? (positions t') j ≡ some p → P p.subterm
  kept_before t t' i s h j p l e = (kept s before).holds j p.subterm l (node_at t' j ∙ ap (map (λ q. q.subterm)) e)
    where
      at : (k : ℕ) (x : Term) (o : Option (Position Term)) → get_elem? (positions t) k ≡ o → k < i
          → map (λ (q : Position Term). q.subterm) o ≡ some x → P x
      at k x none e m d = absurd (none-ne-some x d)
      at k x (some q) e m d = subst P (some-injective q.subterm x d) (h k q m e)

      before : Below P 0 i (nodes t)
      before = record { holds = λ k x m d. at k x (get_elem? (positions t) k) refl (omega arith) (sym (node_at t k) ∙ d) }
