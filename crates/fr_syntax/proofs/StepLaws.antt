-- The step at the end of an expression looks at the innermost bracket, which is the last, and an operation is one on the last factor.
use Rattle.std.proofs.Common.{◌≡◌, List, [], ◌∷◌, ◌++◌, refl, ap, sym, ◌∙◌, append_assoc, append-nil}
use Rattle.fr_syntax.specs.declared.unfinished.Frame.{Frame}
use Rattle.fr_syntax.specs.declared.tree.Expr.{Expr}
use Rattle.fr_syntax.specs.declared.notes.Notes.{Notes}
use Rattle.fr_syntax.specs.Tokens.{Lexeme}
use Rattle.fr_syntax.specs.declared.tree.Factor.{Factor}
use Rattle.fr_syntax.specs.declared.tree.Op.{Op}
use Rattle.fr_syntax.specs.Values.{with_op}
use Rattle.fr_syntax.specs.Steps.{add_op, close_step, end_step}

pub end_step-last : (fs gs : List Frame) (x : Frame) (e : Expr) (n : Notes) (t : Lexeme) →
    end_step fs (gs ++ x ∷ []) e n t ≡ close_step (fs ++ gs) x.«open» x.factors x.place e n t
end_step-last fs [] x e n t = ap (λ l. close_step l x.«open» x.factors x.place e n t) (sym (append-nil fs))
end_step-last fs (g ∷ []) x e n t = refl
end_step-last fs (g ∷ h ∷ gs) x e n t =
    end_step-last (fs ++ g ∷ []) (h ∷ gs) x e n t
    ∙ ap (λ l. close_step l x.«open» x.factors x.place e n t) (append_assoc fs (g ∷ []) (h ∷ gs))

pub add_op-last : (fs : List Factor) (f : Factor) (op : Op) → add_op (fs ++ f ∷ []) op ≡ fs ++ with_op f op ∷ []
add_op-last [] f op = refl
add_op-last (g ∷ []) f op = refl
add_op-last (g ∷ h ∷ fs) f op = ap (λ l. g ∷ l) (add_op-last (h ∷ fs) f op)
