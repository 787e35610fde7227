-- A fold over two slices side by side.
use Rattle.std.proofs.Common.{◌≡◌, List, Bor, Iter, fold, refl, sym, ap, ◌∙◌}
use denote.Param.Members.{Mut}
use Rattle.std.specs.Fn.{Called}
use Rattle.std.specs.Iterator.{Drains}
use Rattle.std.specs.Iterator.Adapters.{zip_first, zip_second}
use Rattle.std.specs.List.{zip, FoldsTo}
use Rattle.std.specs.Slice.Iter.{iter_rest}
use Rattle.std.specs.declared.iter.Zip.{Zip}
use Rattle.std.proofs.lemmas.Fn.{fold_over, fronts}
use Rattle.std.proofs.lemmas.Iterator.{YieldsList-from_slice, YieldsList-from_zip, zips}
use Rattle.std.proofs.lemmas.List.Sums.{fold_push}

-- where each call gives what g gives for the two items' values
pub folded_pairs : {A B C F : Type 0} (g : C → A × B → C) (called : Mut F (C × ((Bor A × Bor B) × Unit {0})) C) (f : F)
    → ((a : C) (x : Bor A × Bor B) (b : C) (f' : F) → Called called f (a, (x, tt)) b f' → (b ≡ g a (x.0.now, x.1.now)) × (f' ≡ f))
    → (s : Zip (Iter A) (Iter B)) (xs : List A) (ys : List B) → iter_rest (zip_first s) ≡ xs → iter_rest (zip_second s) ≡ ys
    → (a r : C)
    → (items : List (Bor A × Bor B)) × (f' : F) × Drains (zips fronts fronts) s items × FoldsTo {P = F × C} (λ p x q. Called called p.0 (p.1, (x, tt)) q.1 q.0) (f, a) items (f', r)
    → r ≡ fold g a (zip xs ys)
folded_pairs g called f one s xs ys d e a r ran =
    let steps = YieldsList-from_zip {s = s} (YieldsList-from_slice xs d) (YieldsList-from_slice ys e) in
    fold_over (zips fronts fronts) (λ p. (p.0.now, p.1.now)) called (λ zs v. v ≡ fold g a zs) f
    (λ zs v x b f' j k.
    let h = one v x b f' k in
    (h.0 ∙ ap (λ u. g u (x.0.now, x.1.now)) j ∙ sym (fold_push g a zs (x.0.now, x.1.now)), h.1))
    s (zip xs ys) a r steps.runs refl ran
