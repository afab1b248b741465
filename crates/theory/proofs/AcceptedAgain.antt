-- What the checks accept under one limit they accept under a larger one. Over the same tables they accept every term of the same type that
-- is within the limit.
use mathlib.Core.Path.{◌≡◌, sym, subst}
use mathlib.Core.List.{List}
use mathlib.Core.Option.{some}
use lib.Dec.{T}
use lib.ListN.{length}
use Prim.Native.Nat.{ℕ, ◌+◌, ◌^◌, ◌≤◌}
use native.Mathlib.Omega.{arith}
use Rattle.syntax.specs.Tables.{Tables}
use Rattle.syntax.specs.Term.{Term}
use Rattle.syntax.specs.Encoding.{encode, size}
use Rattle.syntax.proofs.Decoding.{decode-words}
use Rattle.syntax.proofs.Nodes.{words_of}
use Rattle.typing.specs.Infer.{infer}
use Rattle.typing.specs.Refusals.{accepted, TypedTerm, elaborate}
use Rattle.typing.proofs.LengthsFit.{Lengths, lengths_of_lem, lengths_fit_lem}
use Rattle.typing.proofs.Accepted.{Passed, passed_accepted}
use Rattle.typing.proofs.InferTyped.{typing_of}
use Rattle.typing.proofs.TypedScoped.{type_scoped}
use Rattle.theory.proofs.Fields.{fitting, shaped}
use Rattle.theory.proofs.TypedWords.{words_formed}

-- the lengths of the tables, with other words
lengths_again : {limit limit' : ℕ} {tables : Tables} {words words' : List ℕ} → Lengths limit tables words → length words' ≤ limit'
    → 1 ≤ length words' → Lengths limit' tables words'
lengths_again l h k = record { types = l.types; calls = l.calls; inputs = l.inputs; words' = h; some_word = k }

-- the same words, under a larger limit
pub accepted_longer : (limit limit' : ℕ) (tables : Tables) (words : List ℕ) (x : TypedTerm) → Passed limit tables words x → limit ≤ limit'
    → elaborate limit' tables words ≡ accepted x
accepted_longer limit limit' tables words x p l =
    let w = lengths_of_lem limit tables words p.lengths in
    passed_accepted limit' tables words x (record {
      lengths = lengths_fit_lem limit' tables words (lengths_again w (omega (arith, w.words', l)) w.some_word);
      types = p.types;
      no_twice = p.no_twice;
      calls = p.calls;
      inputs = p.inputs;
      words' = p.words';
      term = p.term;
      in_scope = p.in_scope;
      type = p.type;
    })

-- a term of that type
pub accepted_again : (limit limit' : ℕ) (tables : Tables) (words : List ℕ) (x : TypedTerm) (u : Term) → Passed limit tables words x
    → infer tables u tables.inputs ≡ some x.type → size u ≤ limit' → limit' ≤ 8192
    → elaborate limit' tables (encode u) ≡ accepted (record { term = u; type = x.type })
unfolding size
accepted_again limit limit' tables words x u p e l m =
    let fit = fitting limit tables words p.lengths p.calls in
    let typed = typing_of tables (λ k. Unit) u tables.inputs x.type e (λ k i. tt) in
    let far : length tables.inputs + length (encode u) ≤ 2 ^ 30 = omega (arith, fit.inputs, l, m) in
    passed_accepted limit' tables (encode u) (record { term = u; type = x.type }) (record {
      lengths = lengths_fit_lem limit' tables (encode u) (lengths_again (lengths_of_lem limit tables words p.lengths) l (words_of u));
      types = p.types;
      no_twice = p.no_twice;
      calls = p.calls;
      inputs = p.inputs;
      words' = words_formed tables fit (λ k. Unit) typed far;
      term = decode-words tables.calls u (shaped tables fit (λ k. Unit) typed far);
      in_scope = subst T (sym (type_scoped tables u x.type e)) tt;
      type = e;
    })
