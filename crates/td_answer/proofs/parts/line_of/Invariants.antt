use Rattle.std.proofs.Common.{◌≡◌, map, take}
use Rattle.td_inputs.specs.Placings.{text_of, words_by_place}
use Rattle.td_answer.specs.Parts.{part_words}
use Rattle.td_answer.proofs.parts.line_of.Given as goal

-- the parts so far
abbrev pub invariant-loop-cube : goal.invariant-loop-cube
invariant-loop-cube l =
    map (λ part. part.words.items) l.parts.items
    ≡ map (part_words l.reading (words_by_place l.said.placed.now) l.said.flips l.said.required (map (λ word. word.now) l.said.keep.now) (text_of l.said.keep_file)) (take l.cube-index l.cubes)
