-- Sublists: a list is one of itself, they join and chain, and what stands in front may be struck out.
use mathlib.Core.List.{List, [], ◌∷◌, ◌++◌}
use Rattle.syntax.specs.Lists.{Sublist, empty, kept, struck}

pub sublist_refl : {X : Type 0} (c : List X) → Sublist c c
sublist_refl [] = empty
sublist_refl (m ∷ c) = kept (sublist_refl c)

pub sublist_join : {X : Type 0} {a b c d : List X} → Sublist b a → Sublist d c → Sublist (b ++ d) (a ++ c)
sublist_join empty s = s
sublist_join (kept r) s = kept (sublist_join r s)
sublist_join (struck r) s = struck (sublist_join r s)

pub sublist_skip : {X : Type 0} (a c d : List X) → Sublist d c → Sublist d (a ++ c)
sublist_skip [] c d s = s
sublist_skip (m ∷ a) c d s = struck (sublist_skip a c d s)

pub sublist_trans : {X : Type 0} {a b c : List X} → Sublist b a → Sublist c b → Sublist c a
sublist_trans empty s = s
sublist_trans (kept r) (kept s) = kept (sublist_trans r s)
sublist_trans (kept r) (struck s) = struck (sublist_trans r s)
sublist_trans (struck r) s = struck (sublist_trans r s)
