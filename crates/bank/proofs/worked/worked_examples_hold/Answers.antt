use Rattle.std.proofs.Common.{refl}
use Rattle.bank.specs.Format.{numbers_of}
use Rattle.bank.specs.Tally.{bits_in, zeros, ones, clear, next_cleared, cleared, raised_by}
use Rattle.bank.specs.TallyArea.{tally_area}
use Rattle.bank.proofs.worked.worked_examples_hold.Goals as goal

pub returns : goal.returns
unfolding bits_in zeros ones clear next_cleared cleared raised_by tally_area numbers_of
returns c =
    record {
      hold =
          record {
            ff_raised_to_3_is_1f = refl;
            f0_raised_to_4_is_refused = refl;
            not_higher_is_3 = refl;
            one_byte_takes_8 = refl;
            one_byte_refuses_9 = refl;
            above_limit_is_4 = refl;
          };
    }
