-- Measuring a redex: the sizes of its parts say where each starts, how many words it has, and how many it becomes.
use Prim.Native.Nat.{ℕ, ◌+◌, ◌-◌, ◌*◌, ◌≤◌}
use native.Mathlib.Omega.{arith}
use native.Mathlib.Nat.{mul-le-mul}
use mathlib.Core.Path.{◌≡◌, refl, sym, ◌∙◌, ap, ap₂}
use mathlib.Core.List.{List, ◌++◌}
use Rattle.syntax.specs.Term.{Term, Terms, var, lam, bind, pair, inl, inr, case, done, arg, node}
use Rattle.syntax.specs.Encoding.{encode_all, size}
use Rattle.syntax.specs.Substitution.{◌⟦◌⟧}
use Rattle.syntax.specs.Values.{uses}
use Rattle.syntax.proofs.Sizes.{size_var, size_lam, size_app, size_bind, size_pair, size_fst, size_snd, size_inl, size_inr, size_case}
use Rattle.syntax.proofs.Sizes.{size_substitute}
use Rattle.reduction.specs.MayDrop.{may_drop}
use Rattle.reduction.specs.declared.Rule.TheVariants.{LetOfLet, LetOfCase, Apply, First, Second, LeftCase, RightCase, LetValue, Drop}
use Rattle.reduction.proofs.Fires.{Fires, f_let, f_case, f_apply, f_first, f_second, f_left, f_right, f_value, f_drop}
use Rattle.reduction.proofs.NextSize.{size-let_of_let, size-let_of_case}
use Rattle.words.specs.Joined.{joined}
use Rattle.words.specs.Fronts.{Holds, from}
use Rattle.words.specs.Ends.{Sized}
use Rattle.binding.specs.UseCounts.{Counted, CountsUses}
use Rattle.binding.specs.declared.uses.Uses.{Uses}
use Rattle.words.proofs.Traversal.{fits}
use Rattle.words.proofs.PartsAt.{PartsAt, parts_of_lem, parts_open, part_here, parts_past}
use Rattle.binding.proofs.UsesByNode.{counts_sized}
use Rattle.contraction.specs.declared.plan.Plan.TheVariants.{Substitute, Copy, MoveLet, MoveCase}
use Rattle.contraction.specs.Sizes.{SizedTwo, SizedWith, BodyWith}
use Rattle.contraction.specs.Plans.{substitutes, copies, moves_let, moves_case, MeasuredAs, Measures, UncoversBody, Uncovers}
use Rattle.contraction.proofs.RedexRows.{fired}

-- the uses of a value and its words: the product is small
pub product_small : (u n : ℕ) → u ≤ 8192 → n ≤ 8192 → u * n ≤ 67108864
product_small u n p q = mul-le-mul p q

-- the size of a body with a value in it, from what is counted and measured
put : (b v : Term) (u : Uses) (n w : ℕ) → Counted b 0 u → u.uses ≤ u.end → n ≡ size v → w ≡ u.end - u.uses + u.uses * n
    → w ≡ size (b ⟦ v ⟧)
put b v u n w c few ve we = omega (arith, c.end_is, c.uses_is, few, we, ap₂ ◌*◌ c.uses_is ve, size_substitute b v)

-- a value of one word leaves the size of a body
put_word : (b v : Term) → 1 ≡ size v → size (b ⟦ v ⟧) ≡ size b
put_word b v e = omega (arith, size_substitute b v, ap (λ (n : ℕ). uses b 0 * n) e)

module _ {calls words : List ℕ} where
  pub counted_with : {u : Uses} {n w : ℕ} → CountsUses calls words 0 u → w ≡ u.end - u.uses + u.uses * n → SizedWith calls words n w
  counted_with {u} {n} {w} c e = record { told = λ b v rest h ve. put b v u n w (c.told b rest h) c.few ve e }

  word_with : {n w : ℕ} → Sized calls words w → n ≡ 1 → SizedWith calls words n w
  word_with s e = record { told = λ b v rest h ve. s.told b rest h ∙ sym (put_word b v (sym e ∙ ve)) }

  -- a body that is counted, and one for a value of one word
  pub counted_body : {u : Uses} {n w : ℕ} → CountsUses calls words 0 u → w ≡ u.end - u.uses + u.uses * n
      → BodyWith calls words n (record { end = u.end; wrote = w })
  counted_body c e = record { ends = counts_sized c; becomes = counted_with c e }

  pub word_body : {n w : ℕ} → Sized calls words w → n ≡ 1 → BodyWith calls words n (record { end = w; wrote = w })
  word_body s e = record { ends = s; becomes = word_with s e }

-- a part that was measured, and the part behind it
record TwoHeld (calls words : List ℕ) (i n m : ℕ) (a b : Term) (ts : Terms) (rest : List ℕ) : Type 0 where
  first : Holds calls (from words i) a (encode_all (arg b ts) ++ rest)
  first_size : n ≡ size a
  second : Holds calls (from words (i + n)) b (encode_all ts ++ rest)
  second_size : m ≡ size b
  behind : PartsAt calls words (i + n + m) ts rest

module _ {calls words : List ℕ} where
  two_held : {i n m : ℕ} {a b : Term} {ts : Terms} {rest : List ℕ} → SizedTwo calls words i n m
      → PartsAt calls words i (arg a (arg b ts)) rest → TwoHeld calls words i n m a b ts rest
  two_held {n = n} {m = m} s p =
      let ha = part_here calls words p in
      let ae = s.first.told _ _ ha in
      let q = parts_past calls words p n ae in
      let hb = part_here calls words q in
      let be = s.second.told _ _ hb in
      record { first = ha; first_size = ae; second = hb; second_size = be; behind = parts_past calls words q m be }

  -- a redex of k words that becomes the body at i with the value at j in it
  put_into : {x b v : Term} {rest l m : List ℕ} {i j k n w : ℕ} → Holds calls words x rest → Holds calls (from words i) b l
      → Holds calls (from words j) v m → n ≡ size v → SizedWith calls (from words i) n w → k ≡ size x → size b + n ≤ k
      → MeasuredAs calls words x (b ⟦ v ⟧) (record { plan = Substitute i j n; read = k; wrote = w })
  put_into {b = b} {v = v} h hb hv ve f e le = record {
    read_is = e;
    wrote_is = f.told b v _ hb ve;
    makes = substitutes hb hv ve (omega (arith, e, le, fits h));
  }

  -- apply: the body, then the value
  applied : {x y : Term} {rest : List ℕ} {m n w : ℕ} → Holds calls words x rest → Fires (may_drop calls) Apply x y
      → SizedTwo calls words 2 m n → SizedWith calls (from words 2) n w
      → MeasuredAs calls words x y (record { plan = Substitute 2 (2 + m) n; read = 2 + m + n; wrote = w })
  unfolding node joined
  applied h (f_apply {A = A} {b = b} {v = v} q) s f =
      let two = two_held s (parts_open calls words (parts_of_lem calls words h)) in
      put_into h two.first two.second two.second_size f
      (omega (arith, size_app (lam A b) v, size_lam A b, two.first_size, two.second_size)) (omega (arith, two.first_size))

  pub apply_measures : {m n w : ℕ} → SizedTwo calls words 2 m n → SizedWith calls (from words 2) n w
      → Measures Apply calls words (record { plan = Substitute 2 (2 + m) n; read = 2 + m + n; wrote = w })
  apply_measures s f = record { told = λ x y rest h e. applied h (fired Apply x y e) s f }

  -- a let: the bound part, then the body
  module _ {n m : ℕ} (s : SizedTwo calls words 1 n m) where
    let_size : {v b : Term} {rest : List ℕ} → TwoHeld calls words 1 n m v b done rest → 1 + n + m ≡ size (bind v b)
    let_size {v} {b} two = omega (arith, size_bind v b, two.first_size, two.second_size)

    bound_value : {x y : Term} {rest : List ℕ} {w : ℕ} → Holds calls words x rest → Fires (may_drop calls) LetValue x y
        → SizedWith calls (from words (1 + n)) n w
        → MeasuredAs calls words x y (record { plan = Substitute (1 + n) 1 n; read = 1 + n + m; wrote = w })
    unfolding node
    bound_value h (f_value {v = v} {b = b} q) f =
        let two = two_held s (parts_of_lem calls words h) in
        put_into h two.second two.first two.first_size f (let_size two) (omega (arith, two.second_size))

    pub value_measures : {w : ℕ} → SizedWith calls (from words (1 + n)) n w
        → Measures LetValue calls words (record { plan = Substitute (1 + n) 1 n; read = 1 + n + m; wrote = w })
    value_measures f = record { told = λ x y rest h e. bound_value h (fired LetValue x y e) f }

  -- a let that is dropped: behind its word and its bound part stands the body
  uncovered : {x y : Term} {rest : List ℕ} {n : ℕ} → Holds calls words x rest → Fires (may_drop calls) Drop x y
      → Sized calls (from words 1) n → UncoversBody calls words x y (1 + n)
  unfolding node
  uncovered {n = n} h (f_drop {e = v} {b = b} p q z) s =
      let at = parts_of_lem calls words h in
      let e = s.told _ _ (part_here calls words at) in
      record {
        body = b;
        rest = _;
        holds = part_here calls words (parts_past calls words at n e);
        size_is = omega (arith, size_bind v b, e);
        becomes = refl;
      }

  pub drop_uncovers : {n : ℕ} → Sized calls (from words 1) n → Uncovers Drop calls words (1 + n)
  drop_uncovers s = record { told = λ x y rest h e. uncovered h (fired Drop x y e) s }

  -- a case on an injection: the value, then the branches
  module _ {n m k w : ℕ} (s : SizedTwo calls words 2 n m) (d : Sized calls (from words (2 + n + m)) k) where
    left : {x y : Term} {rest : List ℕ} → Holds calls words x rest → Fires (may_drop calls) LeftCase x y
        → SizedWith calls (from words (2 + n)) n w
        → MeasuredAs calls words x y (record { plan = Substitute (2 + n) 2 n; read = 2 + n + m + k; wrote = w })
    unfolding node joined
    left h (f_left {A = A} {v = v} {l = l} {r = r} q) f =
        let two = two_held s (parts_open calls words (parts_of_lem calls words h)) in
        let re = d.told r _ (part_here calls words two.behind) in
        put_into h two.second two.first two.first_size f
        (omega (arith, size_case (inl A v) l r, size_inl A v, two.first_size, two.second_size, re)) (omega (arith, two.second_size))

    right : {x y : Term} {rest : List ℕ} → Holds calls words x rest → Fires (may_drop calls) RightCase x y
        → SizedWith calls (from words (2 + n + m)) n w
        → MeasuredAs calls words x y (record { plan = Substitute (2 + n + m) 2 n; read = 2 + n + m + k; wrote = w })
    unfolding node joined
    right h (f_right {A = A} {v = v} {l = l} {r = r} q) f =
        let two = two_held s (parts_open calls words (parts_of_lem calls words h)) in
        let hr = part_here calls words two.behind in
        let re = d.told r _ hr in
        put_into h hr two.first two.first_size f
        (omega (arith, size_case (inr A v) l r, size_inr A v, two.first_size, two.second_size, re)) (omega (arith, re))

    pub left_measures : SizedWith calls (from words (2 + n)) n w
        → Measures LeftCase calls words (record { plan = Substitute (2 + n) 2 n; read = 2 + n + m + k; wrote = w })
    left_measures f = record { told = λ x y rest h e. left h (fired LeftCase x y e) f }

    pub right_measures : SizedWith calls (from words (2 + n + m)) n w
        → Measures RightCase calls words (record { plan = Substitute (2 + n + m) 2 n; read = 2 + n + m + k; wrote = w })
    right_measures f = record { told = λ x y rest h e. right h (fired RightCase x y e) f }

  -- a half of a pair
  module _ {n m : ℕ} (s : SizedTwo calls words 2 n m) where
    left_half : {x y : Term} {rest : List ℕ} → Holds calls words x rest → Fires (may_drop calls) First x y
        → MeasuredAs calls words x y (record { plan = Copy 2; read = 2 + n + m; wrote = n })
    unfolding node joined
    left_half h (f_first {A = A} {v = v} {w = w} p q) =
        let two = two_held s (parts_open calls words (parts_of_lem calls words h)) in
        record {
          read_is = omega (arith, size_fst (pair A v w), size_pair A v w, two.first_size, two.second_size);
          wrote_is = two.first_size;
          makes = copies two.first;
        }

    right_half : {x y : Term} {rest : List ℕ} → Holds calls words x rest → Fires (may_drop calls) Second x y
        → MeasuredAs calls words x y (record { plan = Copy (2 + n); read = 2 + n + m; wrote = m })
    unfolding node joined
    right_half h (f_second {A = A} {v = v} {w = w} p q) =
        let two = two_held s (parts_open calls words (parts_of_lem calls words h)) in
        record {
          read_is = omega (arith, size_snd (pair A v w), size_pair A v w, two.first_size, two.second_size);
          wrote_is = two.second_size;
          makes = copies two.second;
        }

    pub first_measures : Measures First calls words (record { plan = Copy 2; read = 2 + n + m; wrote = n })
    first_measures = record { told = λ x y rest h f. left_half h (fired First x y f) }

    pub second_measures : Measures Second calls words (record { plan = Copy (2 + n); read = 2 + n + m; wrote = m })
    second_measures = record { told = λ x y rest h f. right_half h (fired Second x y f) }

  -- a let of a let
  moved_let : {x y : Term} {rest : List ℕ} {n m k : ℕ} → Holds calls words x rest → Fires (may_drop calls) LetOfLet x y
      → SizedTwo calls words 2 n m → Sized calls (from words (2 + n + m)) k
      → MeasuredAs calls words x y (record { plan = MoveLet (2 + n) (2 + n + m); read = 2 + n + m + k; wrote = 2 + n + m + k })
  unfolding node joined
  moved_let {n = n} {m = m} {k = k} h (f_let {p = p} {b = b} {c = c} q) s d =
      let two = two_held s (parts_open calls words (parts_of_lem calls words h)) in
      let hc = part_here calls words two.behind in
      let e : 2 + n + m + k ≡ size (bind (bind p b) c) =
      omega (arith, size_bind (bind p b) c, size_bind p b, two.first_size, two.second_size, d.told c _ hc) in
      record {
        read_is = e;
        wrote_is = e ∙ sym (size-let_of_let p b c);
        makes = moves_let two.first two.second hc (omega (arith, two.first_size)) (omega (arith, two.second_size));
      }

  pub let_of_let_measures : {n m k : ℕ} → SizedTwo calls words 2 n m → Sized calls (from words (2 + n + m)) k
      → Measures LetOfLet calls words (record { plan = MoveLet (2 + n) (2 + n + m); read = 2 + n + m + k; wrote = 2 + n + m + k })
  let_of_let_measures s d = record { told = λ x y rest h f. moved_let h (fired LetOfLet x y f) s d }

  -- a let of a case, whose subject is one word
  moved_case : {x y : Term} {rest : List ℕ} {n m k : ℕ} → Holds calls words x rest → Fires (may_drop calls) LetOfCase x y
      → SizedTwo calls words 3 n m → Sized calls (from words (3 + n + m)) k
      → MeasuredAs calls words x y (record { plan = MoveCase (3 + n) (3 + n + m); read = 3 + n + m + k; wrote = 3 + n + m + k + 1 + k })
  unfolding node joined
  moved_case {rest = rest} {n = n} {m = m} {k = k} h (f_case {n = z} {l = l} {r = r} {c = c}) s d =
      let at : PartsAt calls words 2 (arg (var z) (arg l (arg r (arg c done)))) rest = parts_open calls words (parts_of_lem calls words h) in
      let two = two_held s (parts_past calls words at 1 (sym (size_var z))) in
      let hc = part_here calls words two.behind in
      let ce = d.told c _ hc in
      let e : 3 + n + m + k ≡ size (bind (case (var z) l r) c) =
      omega (arith, size_bind (case (var z) l r) c, size_case (var z) l r, size_var z, two.first_size, two.second_size, ce) in
      record {
        read_is = e;
        wrote_is = omega (arith, e, ce, size-let_of_case z l r c);
        makes = moves_case (part_here calls words at) two.first two.second hc (omega (arith, two.first_size))
            (omega (arith, two.second_size));
      }

  pub let_of_case_measures : {n m k : ℕ} → SizedTwo calls words 3 n m → Sized calls (from words (3 + n + m)) k
      → Measures LetOfCase calls words (record { plan = MoveCase (3 + n) (3 + n + m); read = 3 + n + m + k; wrote = 3 + n + m + k + 1 + k })
  let_of_case_measures s d = record { told = λ x y rest h f. moved_case h (fired LetOfCase x y f) s d }
