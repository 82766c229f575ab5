use Rattle.std.proofs.Common.{◌++◌}
use Rattle.std.specs.Prelude.{codes}
use Rattle.std.proofs.lemmas.Result.{err_from_is_err_and}
use Rattle.td_text.proofs.Outputs.{SentTo-begins, SentTo-then, SentTo-sent}
use Rattle.td_vcd.specs.Text.{text_of, numbered, declaration, start_line}
use Rattle.td_vcd.specs.Chosen.{names_of}
use Rattle.td_vcd.specs.Walks.{begins_text, lines_from}
use Rattle.td_vcd.proofs.Steps.{waves_behind}
use Rattle.td_vcd.proofs.Batches.{through, pushed, refused_part, refused_rest, refused_growth, refused_last}
use Rattle.td_vcd.proofs.writing.write_lines.Goals as goal

pub returns-in_err-write_declarations-clause-refused : goal.returns-in_err-write_declarations-clause-refused
returns-in_err-write_declarations-clause-refused g c =
    let p = err_from_is_err_and c.from_residual.result c.from_residual.ensures.1 in
    let ns = text_of (numbered declaration 0 (names_of c.args.circuit.now c.args.nets.now)) in
    let ss = text_of (numbered start_line 0 (waves_behind c.args.waves.now)) in
    let cs = text_of (lines_from 0 c.args.events.now) in
    rw (p.1, p.2) (refused_part _ _ _ _ _ c.args.batch ns (begins_text ++ (ss ++ (codes "$end\n" ++ cs))) (SentTo-begins _ _) c.in_err-write_declarations.ensures.refused)

pub returns-in_err-push-clause-refused : goal.returns-in_err-push-clause-refused
returns-in_err-push-clause-refused g c =
    let p = err_from_is_err_and c.from_residual-in_err-push.result c.from_residual-in_err-push.ensures.1 in
    let ns = text_of (numbered declaration 0 (names_of c.args.circuit.now c.args.nets.now)) in
    let ss = text_of (numbered start_line 0 (waves_behind c.args.waves.now)) in
    let cs = text_of (lines_from 0 c.args.events.now) in
    let names = through _ _ _ _ c.args.batch ns (begins_text ++ (ss ++ (codes "$end\n" ++ cs))) _ (SentTo-begins _ _) c.in_ok-write_declarations.ensures.written in
    rw (p.1, p.2) (refused_growth _ _ _ _ names)

pub returns-in_err-write_starts-clause-refused : goal.returns-in_err-write_starts-clause-refused
returns-in_err-write_starts-clause-refused g c =
    let p = err_from_is_err_and c.from_residual-in_err-write_starts.result c.from_residual-in_err-write_starts.ensures.1 in
    let ns = text_of (numbered declaration 0 (names_of c.args.circuit.now c.args.nets.now)) in
    let ss = text_of (numbered start_line 0 (waves_behind c.args.waves.now)) in
    let cs = text_of (lines_from 0 c.args.events.now) in
    let names = through _ _ _ _ c.args.batch ns (begins_text ++ (ss ++ (codes "$end\n" ++ cs))) _ (SentTo-begins _ _) c.in_ok-write_declarations.ensures.written in
    let begins = pushed _ _ _ _ begins_text (ss ++ (codes "$end\n" ++ cs)) _ names c.in_ok-push.ensures in
    rw (p.1, p.2) (refused_part _ _ _ _ _ _ ss (codes "$end\n" ++ cs) begins c.in_err-write_starts.ensures.refused)

pub returns-in_err-push-2-clause-refused : goal.returns-in_err-push-2-clause-refused
returns-in_err-push-2-clause-refused g c =
    let p = err_from_is_err_and c.from_residual-in_err-push-2.result c.from_residual-in_err-push-2.ensures.1 in
    let ns = text_of (numbered declaration 0 (names_of c.args.circuit.now c.args.nets.now)) in
    let ss = text_of (numbered start_line 0 (waves_behind c.args.waves.now)) in
    let cs = text_of (lines_from 0 c.args.events.now) in
    let names = through _ _ _ _ c.args.batch ns (begins_text ++ (ss ++ (codes "$end\n" ++ cs))) _ (SentTo-begins _ _) c.in_ok-write_declarations.ensures.written in
    let begins = pushed _ _ _ _ begins_text (ss ++ (codes "$end\n" ++ cs)) _ names c.in_ok-push.ensures in
    let starts = through _ _ _ _ _ ss (codes "$end\n" ++ cs) _ begins c.in_ok-write_starts.ensures.written in
    rw (p.1, p.2) (refused_growth _ _ _ _ starts)

pub returns-in_err-write_changes-clause-refused : goal.returns-in_err-write_changes-clause-refused
returns-in_err-write_changes-clause-refused g c =
    let p = err_from_is_err_and c.from_residual-in_err-write_changes.result c.from_residual-in_err-write_changes.ensures.1 in
    let ns = text_of (numbered declaration 0 (names_of c.args.circuit.now c.args.nets.now)) in
    let ss = text_of (numbered start_line 0 (waves_behind c.args.waves.now)) in
    let cs = text_of (lines_from 0 c.args.events.now) in
    let names = through _ _ _ _ c.args.batch ns (begins_text ++ (ss ++ (codes "$end\n" ++ cs))) _ (SentTo-begins _ _) c.in_ok-write_declarations.ensures.written in
    let begins = pushed _ _ _ _ begins_text (ss ++ (codes "$end\n" ++ cs)) _ names c.in_ok-push.ensures in
    let starts = through _ _ _ _ _ ss (codes "$end\n" ++ cs) _ begins c.in_ok-write_starts.ensures.written in
    let ends = pushed _ _ _ _ (codes "$end\n") cs _ starts c.in_ok-push-2.ensures in
    rw (p.1, p.2) (refused_rest _ _ _ _ _ _ ends c.in_err-write_changes.ensures.refused)

pub returns-in_err-finish-clause-refused : goal.returns-in_err-finish-clause-refused
returns-in_err-finish-clause-refused g c =
    let p = err_from_is_err_and c.from_residual-in_err-finish.result c.from_residual-in_err-finish.ensures.1 in
    let ns = text_of (numbered declaration 0 (names_of c.args.circuit.now c.args.nets.now)) in
    let ss = text_of (numbered start_line 0 (waves_behind c.args.waves.now)) in
    let cs = text_of (lines_from 0 c.args.events.now) in
    let names = through _ _ _ _ c.args.batch ns (begins_text ++ (ss ++ (codes "$end\n" ++ cs))) _ (SentTo-begins _ _) c.in_ok-write_declarations.ensures.written in
    let begins = pushed _ _ _ _ begins_text (ss ++ (codes "$end\n" ++ cs)) _ names c.in_ok-push.ensures in
    let starts = through _ _ _ _ _ ss (codes "$end\n" ++ cs) _ begins c.in_ok-write_starts.ensures.written in
    let ends = pushed _ _ _ _ (codes "$end\n") cs _ starts c.in_ok-push-2.ensures in
    let changes = SentTo-then _ _ _ _ _ _ ends c.in_ok-write_changes.ensures.written in
    rw (p.1, p.2) (refused_last _ _ _ _ _ changes c.in_err-finish.ensures.err)

pub returns-clause-written : goal.returns-clause-written
returns-clause-written g c =
    let ns = text_of (numbered declaration 0 (names_of c.args.circuit.now c.args.nets.now)) in
    let ss = text_of (numbered start_line 0 (waves_behind c.args.waves.now)) in
    let cs = text_of (lines_from 0 c.args.events.now) in
    let names = through _ _ _ _ c.args.batch ns (begins_text ++ (ss ++ (codes "$end\n" ++ cs))) _ (SentTo-begins _ _) c.in_ok-write_declarations.ensures.written in
    let begins = pushed _ _ _ _ begins_text (ss ++ (codes "$end\n" ++ cs)) _ names c.in_ok-push.ensures in
    let starts = through _ _ _ _ _ ss (codes "$end\n" ++ cs) _ begins c.in_ok-write_starts.ensures.written in
    let ends = pushed _ _ _ _ (codes "$end\n") cs _ starts c.in_ok-push-2.ensures in
    let changes = SentTo-then _ _ _ _ _ _ ends c.in_ok-write_changes.ensures.written in
    SentTo-sent _ _ _ _ _ changes c.in_ok-finish.ensures.ok
