-- The parts of a question.
use Rattle.std.proofs.Common.{◌≡◌, ◌≢◌, ◌<◌, ℕ, List, [], ◌∷◌, length, arith, refl}
use Rattle.td_gates.proofs.Places.{slice_get-some}
use Rattle.td_reading.specs.declared.reading.Reading.{Reading}
use Rattle.td_circuit.specs.Settings.{Setting}
use Rattle.td_domain.specs.declared.cubes.Trit.{Trit}
use Rattle.td_refutation.specs.Asking.{Asking}
use Rattle.td_join.specs.Partition.{IsPartition}
use Rattle.td_request.specs.declared.question.Question.{Question}
use Rattle.td_question.specs.Asking.{IsAskedKeeping}
use Rattle.td_answer.specs.Searches.{AdmitsNone}

-- where there are none no pair is admitted
pub no_parts : (text : List ℕ) (reading : Reading) (question : Question) (setting : Setting) (asking : Asking) (cubes : List (List Trit))
    → IsAskedKeeping text reading question setting asking → IsPartition asking.admit cubes → cubes ≡ [] → AdmitsNone text reading question
no_parts text reading question setting asking cubes asked partition none = (
  setting,
  asking,
  asked,
  λ pair admitted. (let lies = partition pair admitted in absurd (omega (arith, slice_get-some cubes lies.place lies.cube lies.at, length_none))),
)
  where
    length_none : length cubes ≡ 0
    length_none = rw none refl

pub some_parts : (cubes : List (List Trit)) → cubes ≢ [] → 0 < length cubes
some_parts [] full = absurd (full refl)
some_parts (cube ∷ cubes) full = omega arith
