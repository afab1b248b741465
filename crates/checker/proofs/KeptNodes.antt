-- Open nodes in the two buffers of the inference: each stands above those around it, so what is written above leaves them as they were.
use mathlib.Core.Path.{◌≡◌, refl, sym, ◌∙◌, ap}
use mathlib.Core.Bool.{Bool, true, false, cond}
use mathlib.Core.List.{List, [], ◌∷◌}
use Prim.Native.Nat.{ℕ, zero, suc, ◌+◌, ◌-◌, ◌*◌, ◌/◌, ◌%◌, ◌≤◌, ◌<◌}
use native.Mathlib.Omega.{arith}
use lib.Dec.{ltb}
use lib.ListN.{length, get_or, set}
use lib.Seq.{get_or-set_same, get_or-set_other}
use Rattle.syntax.specs.Words.{kind_of}
use Rattle.syntax.specs.Kinds.{binders_at, binds_of, free_of}
use Rattle.syntax.specs.Parts.{part_count}
use Rattle.syntax.specs.Shaped.{count}
use Rattle.checker.specs.Nodes.{types_to}
use Rattle.checker.specs.Answers.{scope}
use Rattle.checker.proofs.Lookups.{scope_set}
use Rattle.checker.proofs.OpenNodes.{Open}

-- the types of a node's parts before part j, which stand from an index on, with zeros up to three
abbrev pub types_before : List ℕ → ℕ → ℕ → List ℕ
types_before nodes i zero = 0 ∷ 0 ∷ 0 ∷ []
types_before nodes i (suc j) = types_to nodes i j

triple : (a b c x y z : ℕ) → a ≡ x → b ≡ y → c ≡ z → ◌≡◌ {A = List ℕ} (a ∷ b ∷ c ∷ []) (x ∷ y ∷ z ∷ [])
triple a b c x y z p q r = cc

module _ (nodes : List ℕ) (i : ℕ) where
  pub types_set : (j A : ℕ) → j ≤ 2 → i + j < length nodes → types_to (set nodes (i + j) A) i j ≡ set (types_before nodes i j) j A
  types_set zero A l h =
      triple _ 0 0 _ 0 0 (ap (λ (k : ℕ). get_or (set nodes k A) i 0) (last i) ∙ get_or-set_same nodes i A 0 (omega (arith, h))) refl refl
    where
      last : (n : ℕ) → n + 0 ≡ n
      last n = omega arith
  types_set (suc zero) A l h =
      triple _ _ 0 _ _ 0 (get_or-set_other nodes (i + 1) i A 0 (λ e. absurd (omega (arith, e)))) (get_or-set_same nodes (i + 1) A 0 h) refl
  types_set (suc (suc zero)) A l h =
      triple _ _ _ _ _ _ (get_or-set_other nodes (i + 2) i A 0 (λ e. absurd (omega (arith, e))))
      (get_or-set_other nodes (i + 2) (i + 1) A 0 (λ e. absurd (omega (arith, e)))) (get_or-set_same nodes (i + 2) A 0 h)
  types_set (suc (suc (suc j))) A l h = absurd (omega (arith, l))

  pub types_kept : (j n x : ℕ) → j ≤ 2 → i + j ≤ n → types_before (set nodes n x) i j ≡ types_before nodes i j
  types_kept zero n x l h = refl
  types_kept (suc zero) n x l h = triple _ 0 0 _ 0 0 (get_or-set_other nodes n i x 0 (λ e. absurd (omega (arith, e, h)))) refl refl
  types_kept (suc (suc zero)) n x l h =
      triple _ _ 0 _ _ 0 (get_or-set_other nodes n i x 0 (λ e. absurd (omega (arith, e, h))))
      (get_or-set_other nodes n (i + 1) x 0 (λ e. absurd (omega (arith, e, h)))) refl
  types_kept (suc (suc (suc j))) n x l h = absurd (omega (arith, l))

pub one_binder : (k j : ℕ) → binders_at k j ≤ 1
unfolding binders_at
one_binder k j = most (binds_of k) (ltb j (free_of k))
  where
    most : (b c : Bool) → cond b (cond c 0 1) 0 ≤ 1
    most false c = omega arith
    most true false = omega arith
    most true true = omega arith

module _ (calls inputs words : List ℕ) where
  -- the innermost open node, the buffers in use up to `top` and `depth`
  pub record Kept (stack nodes : List ℕ) (f : Open) (top depth : ℕ) : Type 0 where
    pub ends : top ≡ f.base + f.part + 1
    pub deep : depth ≡ f.depth + binders_at (kind_of (get_or words f.place 0)) f.part
    pub head : get_or nodes (f.base + f.part) 0 ≡ f.place * 4 + f.part
    pub types : f.found ≡ types_before nodes f.base f.part
    pub in_scope : f.context ≡ scope inputs stack f.depth
    pub many : part_count calls (get_or words f.place 0) ≡ f.part + 1 + count f.later
    pub few : part_count calls (get_or words f.place 0) ≤ 3
    pub inside : f.place < length words

  -- all of them
  unfoldable pub AllKept : (stack nodes : List ℕ) → List Open → ℕ → ℕ → Type 0
  AllKept stack nodes [] top depth = (top ≡ 0) × (depth ≡ 0)
  AllKept stack nodes (f ∷ fs) top depth = Kept stack nodes f top depth × AllKept stack nodes fs f.base f.depth

  pub kept_node : (stack nodes : List ℕ) (fs : List Open) (top depth i x : ℕ) → top ≤ i → AllKept stack nodes fs top depth
      → AllKept stack (set nodes i x) fs top depth
  unfolding AllKept
  kept_node stack nodes [] top depth i x h k = k
  kept_node stack nodes (f ∷ fs) top depth i x h (k, ks) = (
    record {
      ends = k.ends;
      deep = k.deep;
      head = get_or-set_other nodes i (f.base + f.part) x 0 (λ e. absurd (omega (arith, e, h, k.ends))) ∙ k.head;
      types = k.types ∙ sym (types_kept nodes f.base f.part i x (omega (arith, k.many, k.few)) (omega (arith, h, k.ends)));
      in_scope = k.in_scope;
      many = k.many;
      few = k.few;
      inside = k.inside;
    },
    kept_node stack nodes fs f.base f.depth i x (omega (arith, h, k.ends)) ks,
  )

  pub kept_binder : (stack nodes : List ℕ) (fs : List Open) (top depth i x : ℕ) → depth ≤ i → AllKept stack nodes fs top depth
      → AllKept (set stack i x) nodes fs top depth
  unfolding AllKept
  kept_binder stack nodes [] top depth i x h k = k
  kept_binder stack nodes (f ∷ fs) top depth i x h (k, ks) =
      let l : f.depth ≤ i = omega (arith, h, k.deep) in (
        record {
          ends = k.ends;
          deep = k.deep;
          head = k.head;
          types = k.types;
          in_scope = k.in_scope ∙ sym (scope_set inputs stack f.depth i x l);
          many = k.many;
          few = k.few;
          inside = k.inside;
        },
        kept_binder stack nodes fs f.base f.depth i x l ks,
      )

  -- a node binds no more than one variable
  pub kept_depth : (stack nodes : List ℕ) (fs : List Open) (top depth : ℕ) → AllKept stack nodes fs top depth → depth ≤ top
  unfolding AllKept
  kept_depth stack nodes [] top depth k = omega (arith, k.1)
  kept_depth stack nodes (f ∷ fs) top depth (k, ks) =
      omega
      (arith, k.ends, k.deep, one_binder (kind_of (get_or words f.place 0)) f.part, kept_depth stack nodes fs f.base f.depth ks)

  -- what the last word of the nodes says where a node is open: the innermost one is at a place of the words, and which part is being typed
  pub record Head (nodes : List ℕ) (top depth : ℕ) : Type 0 where
    pub place : get_or nodes (top - 1) 0 / 4 < length words
    pub few : get_or nodes (top - 1) 0 % 4 ≤ 2
    pub low : get_or nodes (top - 1) 0 % 4 + 1 ≤ top
    pub binders : binders_at (kind_of (get_or words (get_or nodes (top - 1) 0 / 4) 0)) (get_or nodes (top - 1) 0 % 4) ≤ depth

  pub kept_head : (stack nodes : List ℕ) (fs : List Open) (top depth : ℕ) → AllKept stack nodes fs top depth → 1 ≤ top → Head nodes top depth
  unfolding AllKept
  kept_head stack nodes [] top depth k l = absurd (omega (arith, k.0))
  kept_head stack nodes (f ∷ fs) top depth (k, ks) l =
      let last : get_or nodes (top - 1) 0 ≡ f.place * 4 + f.part =
      ap (λ (n : ℕ). get_or nodes n 0) (omega (arith, k.ends)) ∙ k.head in
      let place : get_or nodes (top - 1) 0 / 4 ≡ f.place = omega (arith, last, k.many, k.few) in
      let part : get_or nodes (top - 1) 0 % 4 ≡ f.part = omega (arith, last, k.many, k.few) in
      record {
        place = omega (arith, place, k.inside);
        few = omega (arith, part, k.many, k.few);
        low = omega (arith, part, k.ends);
        binders = rw (place, part) (omega (arith, k.deep));
      }
