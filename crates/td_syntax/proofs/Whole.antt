-- A text is a module exactly where it is read as one.
use Rattle.std.proofs.Common.{◌≡◌, ℕ, ◌≤◌, List, ◌++◌, length, map, Result, Ok, Err, refl, sym, ap, subst, ◌∙◌, inl, inr, ltb, arith}
use Rattle.std.specs.Prelude.{IfOk}
use Rattle.std.specs.List.{sum_by}
use Rattle.std.proofs.lemmas.Bool.{ltb-false, le-ltb}
use Rattle.std.proofs.lemmas.List.{append-nil}
use Rattle.td_syntax.specs.declared.fault.Fault as code_fault
use Rattle.td_syntax.specs.Token.{Placed}
use Rattle.td_syntax.specs.Tokens.{tokens_of}
use Rattle.td_syntax.specs.Grammar as grammar
use Rattle.td_syntax.specs.Grammar.{item_gates}
use Rattle.td_syntax.proofs.Plain.{plain}
use Rattle.td_syntax.specs.Faults.{Fault, TooMany, fault, Gives, ◌>>=◌}
use Rattle.td_syntax.specs.Readers.{start}
use Rattle.td_syntax.specs.Parsing.{module_at}
use Rattle.td_syntax.specs.FirstFault.{syntax_of}
use Rattle.td_syntax.specs.Text.{Lexes, Parses}
use Rattle.td_syntax.proofs.Inside.{Inside, module_inside}
use Rattle.td_syntax.proofs.Spelled.{are_tokens, spelled}
use Rattle.td_syntax.proofs.Takes.{bind_ok, chosen, ok_is, err_is_no_ok}
use Rattle.td_syntax.proofs.SoundItems.{module_takes}
use Rattle.td_syntax.proofs.AgainItems.{module_again}

pub is_found : (text : List ℕ) (m : grammar.Module) → syntax_of text ≡ Ok m → Parses text m
unfolding syntax_of
is_found text m e =
    let too_long : Result grammar.Module Fault = Err (fault TooMany 1) in
    let s = tokens_of 1 text in
    elim (chosen (ltb 67108864 (length text)) too_long (module_at (start s) >>= λ x. Ok x.0) (Ok m) e) [
      | inl h ↦ absurd (err_is_no_ok _ m (sym h.1))
      | inr h ↦
          let a = bind_ok (module_at (start s)) (λ x. Ok x.0) m h.1 in
          let t = module_takes (start s) a.0 a.1 in
          let tokens : map plain s.tokens ≡ grammar.module_tokens a.0.0 = t.takes.tokens ∙ ap (λ (ts : List Placed). grammar.module_tokens a.0.0 ++ map plain ts) t.ended.0 ∙ append-nil (grammar.module_tokens a.0.0) in
          let inside : Inside (map plain s.tokens) = subst (λ (ts : List Placed). Inside ts) (sym tokens) (module_inside a.0.0) in
          let lexes : Lexes 1 text (grammar.module_tokens a.0.0) = subst (λ (ts : List Placed). Lexes 1 text ts) tokens (spelled 1 text (sym t.takes.stop ∙ t.ended.1) inside) in
          let gates : sum_by item_gates a.0.0.items ≤ 200000 = omega (arith, t.takes.counted, t.takes.within (omega arith)) in
          subst (λ (n : grammar.Module). Parses text n) (ok_is a.0.0 m a.2) (record {
            size = ltb-false _ _ h.0;
            spelled = lexes;
            kept = record { ports = t.ports; items = t.items; gates = gates };
          })
    ]

pub is_again : (text : List ℕ) (m : grammar.Module) → Parses text m → syntax_of text ≡ Ok m
unfolding syntax_of
is_again text m p =
    let a = are_tokens p.spelled in
    let r = module_again (start (tokens_of 1 text)) m refl p.kept.ports p.kept.items p.kept.gates a.tokens a.stop in
    rw (le-ltb 67108864 (length text) p.size, r.gives) refl

pub found_as : {X : Type 0} (view : X → grammar.Module) (text : List ℕ) (r : Result X code_fault.Fault) → Gives view r (syntax_of text) → IfOk r (λ x. Parses text (view x))
found_as view text (Ok x) given = is_found text (view x) given
found_as view text (Err e) given = tt

pub only_as : {X : Type 0} (view : X → grammar.Module) (text : List ℕ) (r : Result X code_fault.Fault) → Gives view r (syntax_of text) → (m : grammar.Module) → Parses text m → Gives view r (Ok m)
only_as view text r given m p = subst (λ (f : Result grammar.Module Fault). Gives view r f) (is_again text m p) given
