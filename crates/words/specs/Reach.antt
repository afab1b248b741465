-- The parts of a node by what its binder reaches: the outer ones stand under no binder of the node, the inner ones under one.
use Rattle.std.specs.Prelude.{ℕ, cond}
use Rattle.syntax.specs.Kinds.{binds_of, free_of}
use Rattle.syntax.specs.Term.{Term, Terms, var, call, lam, app, bind, pair, fst, snd, inl, inr, case, unit, done, arg}

unfoldable pub outer : Term → Terms
outer (var n) = done
outer (call k ts) = ts
outer (lam A b) = done
outer (app f a) = arg f (arg a done)
outer (bind e b) = arg e done
outer (pair A a b) = arg a (arg b done)
outer (fst a) = arg a done
outer (snd a) = arg a done
outer (inl A a) = arg a done
outer (inr A a) = arg a done
outer (case s l r) = arg s done
outer (unit A) = done

unfoldable pub inner : Term → Terms
inner (var n) = done
inner (call k ts) = done
inner (lam A b) = arg b done
inner (app f a) = done
inner (bind e b) = arg b done
inner (pair A a b) = done
inner (fst a) = done
inner (snd a) = done
inner (inl A a) = done
inner (inr A a) = done
inner (case s l r) = arg l (arg r done)
inner (unit A) = done

-- how many of the n parts of a node of kind k are outer: the first ones
unfoldable pub outer_count : ℕ → ℕ → ℕ
outer_count k n = cond (binds_of k) (free_of k) n
