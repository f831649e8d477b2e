-- A pair that is put between front and back.
use Rattle.std.proofs.Common.{◌≡◌, List, ◌++◌, Result, Ok, Err, OnOk, OnErr, inl, inr, subst, sym}
use Rattle.lb_index_ranks.specs.declared.filed.Filed.{Filed}
use Rattle.lb_index_ranks.specs.Block.{back_in, front_in, IsFiledIn}
use Rattle.lb_index_ranks.specs.Filed.{AreInOrder, HasBesides, IsCut}
use Rattle.lb_index_ranks.proofs.Cuts.{present, put_again, put_has, put_order}
use Rattle.lb_index_ranks.proofs.InPlace.{cut_in, order_in, whole_in}

order_by : (at : Filed) (front back new : List Filed) → AreInOrder (front ++ back) → IsCut at front back → IsFiledIn at front back new → AreInOrder new
order_by at front back new order cut filed =
    elim filed [ inl here ↦ subst AreInOrder (sym here.1) order | inr other ↦ subst AreInOrder (sym other.1) (put_order at front back order cut other.0) ]

besides_by : (at : Filed) (front back new : List Filed) → IsFiledIn at front back new → HasBesides (front ++ back) at new
besides_by at front back new filed =
    elim filed [
      | inl here ↦ subst (λ (xs : List Filed). HasBesides (front ++ back) at xs) (sym here.1) (put_again (front ++ back) at (present at front back here.0))
      | inr other ↦ subst (λ (xs : List Filed). HasBesides (front ++ back) at xs) (sym other.1) (put_has at front back)
    ]

-- pairs stay in order where one is filed
pub filed_order : (at : Filed) (items new : List Filed) → AreInOrder items → IsFiledIn at (front_in at items) (back_in at items) new → AreInOrder new
filed_order at items new order filed = order_by at (front_in at items) (back_in at items) new (order_in at items order) (cut_in at items order) filed

-- and that one is there besides
pub filed_besides : (at : Filed) (items new : List Filed) → IsFiledIn at (front_in at items) (back_in at items) new → HasBesides items at new
filed_besides at items new filed = subst (λ (xs : List Filed). HasBesides xs at new) (whole_in at items) (besides_by at (front_in at items) (back_in at items) new filed)

-- where filing is refused they are as they were
pub kept_order : {A E : Type 0} (r : Result A E) (at : Filed) (items new : List Filed) → AreInOrder items → OnOk r (IsFiledIn at (front_in at items) (back_in at items) new) → OnErr r (new ≡ items) → AreInOrder new
kept_order (Ok u) at items new order ok err = filed_order at items new order ok
kept_order (Err e) at items new order ok err = subst AreInOrder (sym err) order
