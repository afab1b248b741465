-- A term as a node over its parts, whatever its kind: its words, its shape, and what stands at the front of words.
use mathlib.Core.Path.{◌≡◌, refl, sym, ◌∙◌, ap}
use mathlib.Core.List.{List, ◌∷◌, ◌++◌, append_assoc, append-nil}
use Prim.Native.Nat.{ℕ, ◌+◌, ◌-◌, ◌^◌, ◌≤◌, ◌<◌}
use native.Mathlib.Omega.{arith}
use lib.ListN.{length, get_or, drop, take, length-drop}
use lib.Seq.{drop-append_seam, drop-drop, take_all}
use Rattle.syntax.specs.Words.{pack, kind_of, number_of, type_of}
use Rattle.syntax.specs.Term.{Term, Terms, var, call, lam, app, bind, pair, fst, snd, inl, inr, case, unit, arg, node}
use Rattle.syntax.specs.Encoding.{word_of, encode, encode_all}
use Rattle.syntax.specs.Parts.{part_count}
use Rattle.syntax.proofs.Decoding.{kind_pack, number_pack, type_pack}
use Rattle.syntax.specs.Shaped.{count, Shaped, ShapedAll}
use Rattle.syntax.proofs.KnownParts.{known_arity_lem}
use Rattle.syntax.proofs.Parts.{kinded}

-- a term's words are its node's word and its parts' words
pub encode_node : (t : Term) → encode t ≡ word_of t ∷ encode_all (node t).parts
unfolding encode node
encode_node (var n) = refl
encode_node (call k ts) = refl
encode_node (lam A b) = ap {B = List ℕ} (λ ws. pack 2 0 A ∷ ws) (sym (append-nil (encode b)))
encode_node (app f a) = ap {B = List ℕ} (λ ws. pack 3 0 0 ∷ (encode f ++ ws)) (sym (append-nil (encode a)))
encode_node (bind e b) = ap {B = List ℕ} (λ ws. pack 4 0 0 ∷ (encode e ++ ws)) (sym (append-nil (encode b)))
encode_node (pair A a b) = ap {B = List ℕ} (λ ws. pack 5 0 A ∷ (encode a ++ ws)) (sym (append-nil (encode b)))
encode_node (fst a) = ap {B = List ℕ} (λ ws. pack 6 0 0 ∷ ws) (sym (append-nil (encode a)))
encode_node (snd a) = ap {B = List ℕ} (λ ws. pack 7 0 0 ∷ ws) (sym (append-nil (encode a)))
encode_node (inl A a) = ap {B = List ℕ} (λ ws. pack 8 0 A ∷ ws) (sym (append-nil (encode a)))
encode_node (inr A a) = ap {B = List ℕ} (λ ws. pack 9 0 A ∷ ws) (sym (append-nil (encode a)))
encode_node (case s l r) = ap {B = List ℕ} (λ ws. pack 10 0 0 ∷ (encode s ++ (encode l ++ ws))) (sym (append-nil (encode r)))
encode_node (unit A) = refl

module _ (calls : List ℕ) where
  -- what the shape of a term says of its node
  pub record ShapedNode (t : Term) : Type 0 where
    pub number : (node t).number < 2 ^ 30
    pub type : (node t).type < 2 ^ 30
    pub parts : part_count calls (word_of t) ≡ count (node t).parts
    pub shaped : ShapedAll calls (node t).parts

  pub shaped_node : (t : Term) → Shaped calls t → ShapedNode t
  unfolding Shaped node count
  shaped_node (var n) s = record { number = s; type = omega arith; parts = kinded calls 0 n 0 s (omega arith); shaped = tt }
  shaped_node (call k ts) s =
      record { number = s.0; type = omega arith; parts = kinded calls 1 k 0 s.0 (omega arith) ∙ (known_arity_lem calls k (count ts) s.1).0; shaped = s.2 }
  shaped_node (lam A b) s =
      record { number = omega arith; type = s.0; parts = kinded calls 2 0 A (omega arith) s.0; shaped = (s.1, tt) }
  shaped_node (app f a) s =
      record {
        number = omega arith;
        type = omega arith;
        parts = kinded calls 3 0 0 (omega arith) (omega arith);
        shaped = (s.0, (s.1, tt));
      }
  shaped_node (bind e b) s =
      record {
        number = omega arith;
        type = omega arith;
        parts = kinded calls 4 0 0 (omega arith) (omega arith);
        shaped = (s.0, (s.1, tt));
      }
  shaped_node (pair A a b) s =
      record { number = omega arith; type = s.0; parts = kinded calls 5 0 A (omega arith) s.0; shaped = (s.1, (s.2, tt)) }
  shaped_node (fst a) s =
      record { number = omega arith; type = omega arith; parts = kinded calls 6 0 0 (omega arith) (omega arith); shaped = (s, tt) }
  shaped_node (snd a) s =
      record { number = omega arith; type = omega arith; parts = kinded calls 7 0 0 (omega arith) (omega arith); shaped = (s, tt) }
  shaped_node (inl A a) s =
      record { number = omega arith; type = s.0; parts = kinded calls 8 0 A (omega arith) s.0; shaped = (s.1, tt) }
  shaped_node (inr A a) s =
      record { number = omega arith; type = s.0; parts = kinded calls 9 0 A (omega arith) s.0; shaped = (s.1, tt) }
  shaped_node (case c l r) s =
      record {
        number = omega arith;
        type = omega arith;
        parts = kinded calls 10 0 0 (omega arith) (omega arith);
        shaped = (s.0, (s.1, (s.2, tt)));
      }
  shaped_node (unit A) s = record { number = omega arith; type = s; parts = kinded calls 11 0 A (omega arith) s; shaped = tt }

  -- what stands at the front of words that begin with a term
  pub record Front (ws : List ℕ) (t : Term) (rest : List ℕ) : Type 0 where
    pub kind : kind_of (get_or ws 0 0) ≡ (node t).kind
    pub number : number_of (get_or ws 0 0) ≡ (node t).number
    pub type : type_of (get_or ws 0 0) ≡ (node t).type
    pub parts : part_count calls (get_or ws 0 0) ≡ count (node t).parts
    pub shaped : ShapedAll calls (node t).parts
    pub tail : drop 1 ws ≡ encode_all (node t).parts ++ rest
    pub size : 1 + length (encode_all (node t).parts) ≡ length (encode t)

  pub front : (ws : List ℕ) (t : Term) (rest : List ℕ) → Shaped calls t → ws ≡ encode t ++ rest → Front ws t rest
  front ws t rest s e =
      let n = shaped_node t s in
      let d : ws ≡ word_of t ∷ (encode_all (node t).parts ++ rest) = e ∙ ap (λ (l : List ℕ). l ++ rest) (encode_node t) in
      let h : get_or ws 0 0 ≡ word_of t = ap (λ (l : List ℕ). get_or l 0 0) d in
      record {
        kind = ap kind_of h ∙ kind_pack (node t).kind (node t).number (node t).type n.number n.type;
        number = ap number_of h ∙ number_pack (node t).kind (node t).number (node t).type n.number n.type;
        type = ap type_of h ∙ type_pack (node t).kind (node t).number (node t).type n.number n.type;
        parts = ap (part_count calls) h ∙ n.parts;
        shaped = n.shaped;
        tail = ap (drop 1) d;
        size = omega (arith, ap length (encode_node t));
      }

-- a term has words
pub words_of : (t : Term) → 1 ≤ length (encode t)
words_of t = omega (arith, ap length (encode_node t))

-- the part of a slice that runs to its end
pub tail_part : (ws : List ℕ) (i : ℕ) → take (length ws - i) (drop i ws) ≡ drop i ws
tail_part ws i = take_all (length ws - i) (drop i ws) (simp length-drop (omega arith))

-- past a part's words
pub next_part : (ws : List ℕ) (i : ℕ) (t : Term) (ts : Terms) (rest : List ℕ) → drop i ws ≡ encode_all (arg t ts) ++ rest
    → drop i ws ≡ encode t ++ (encode_all ts ++ rest)
unfolding encode
next_part ws i t ts rest e = e ∙ append_assoc (encode t) (encode_all ts) rest

pub past_part : (ws : List ℕ) (i : ℕ) (t : Term) (ts : Terms) (rest : List ℕ) → drop i ws ≡ encode_all (arg t ts) ++ rest
    → drop (i + length (encode t)) ws ≡ encode_all ts ++ rest
past_part ws i t ts rest e = sym (drop-drop (length (encode t)) i ws) ∙ ap (drop (length (encode t))) (next_part ws i t ts rest e)
    ∙ drop-append_seam (encode t) (encode_all ts ++ rest)
