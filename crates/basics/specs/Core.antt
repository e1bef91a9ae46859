-- The names of the toolchain's libraries that many modules use, handed on, so that a module has them by one line: all but those of the Prelude,
-- which every module takes from it. A name of a library that few modules use is imported where it is used.
pub use Rattle.std.proofs.Common.{◌∙◌, ap, ap₂, subst, sym, true≢false, inl, inr, ⊎_elim, append_assoc, drop_of_length-le, length-append, length-drop, length-set, length-take, take-append-drop, drop_at, drop-cons, drop-drop, drop-set-lt, ext_get_or, get_or-append-add, get_or-drop, get_or-set_other, get_or-set_same, get_or-take, length-take-le, take_all, take_at, take-suc, take-suc-set, take-take, lit<, ltb→lt, nltb→le, add_assoc, add-le-add, add-mul, add-sub_of_le, add-suc, add-zero, div-add-mod', div-lt_iff_lt-mul, div-one, eq-or-lt_of_le, eq-zero-or-pos, le_antisymm, le_of_lt, le_of_suc-le-suc, le_refl, le_trans, lt_of_not-le, mod-eq_of_lt, mod-lt, mul_comm, mul-le-mul, mul-le-mul_left, mul-le-mul_right, mul-zero, not-suc-le-zero, one-mul, pos_of_ne-zero, pow-suc, sub-add_cancel, sub-le, suc-add, suc-mul, zero-add, zero-mul, add-one, one-add, arith, eq-eqb, eqb-true, le-leb, le-ltb, leb-false, leb-true, lt-ltb, ltb-false, ltb-true, ne_eqb, rules}
pub use Rattle.std.proofs.Math.Path.{fun_ext}
pub use Rattle.std.proofs.Math.Bool.{and-false, and-true, or-false, or-true}
pub use Rattle.std.proofs.lemmas.Bool.{false≢true, eqb-false, lt-leb, not-false, not-true}
pub use Rattle.std.proofs.Math.Logic.{⊎_map}
pub use mathlib.Core.Logic.Iff.{trans as iff_trans}
unfoldable pub use mathlib.Core.Option.{Option-elim as option_elim}
pub use Rattle.std.proofs.Math.Option.{Option, get_or as option_get_or, none-ne-some, some-injective, none, some}
unfoldable pub use mathlib.Core.List.{flat_map, head_d}
pub use mathlib.Core.List.Memᴰ.{append_cases as mem_append_cases, append_left as mem_append_left, append_right as mem_append_right, cases_cons as mem_cases_cons, cast as mem_cast, eq_of_singleton as mem_eq_of_singleton, head as mem_head, map as mem_map, not-nil as mem_not_nil, tail as mem_tail}
pub use mathlib.Core.List.{Memᴰ, append-nil, reverse-cons, reverse-reverse}
pub use Rattle.std.proofs.Math.ListN.{get_or-append, get_or-eq_default, get_or-map}
pub use Rattle.std.proofs.lemmas.List.{get_or-replicate, length-map, length-replicate, length-reverse, get_or_at, set-append_left, set_at, set_split}
pub use Rattle.std.proofs.Math.Seq.{drop-append-add, length_front, set_out, take-length}
pub use Rattle.std.proofs.Math.Dec.{eqb-suc-zero}
pub use Rattle.std.proofs.Math.Nat.{add-sub_cancel_left, div-add-mod, div-div-eq-div-mul, div-eq_of_lt, div-le_of_le-mul, le_dest, le_of_mul-le-mul_left, lt_of_mul-lt-mul_left, max-eq_left, max-eq_right, min-eq_left, min-eq_right, min-le_left, min-le_right, min-zero, mod-zero, mul-add-div, mul-add-mod_self_left, mul-mod_right, one-le-pow, pow-le-pow_right, pow-zero, sub_self, sub-zero, suc-min-suc, two-pow-succ, zero-min, zero-sub}
