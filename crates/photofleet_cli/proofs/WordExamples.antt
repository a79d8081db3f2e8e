-- `clap`'s definitions compute the worked command lines.
use Rattle.std.proofs.Common.{refl}
use Rattle.clap.proofs.OnLiterals.{clap_on_literals}
use Rattle.photofleet_cli.specs.Examples.{WordsAreAsTold, WorkersAreAsked, BatchesAreAsked, OrdersAreAsked}

pub words_as_told : WordsAreAsTold
unfolding clap_on_literals
words_as_told = record {
  run = record { accepted = refl; named = refl };
  dashed = record { accepted = refl; named = refl };
  help = refl;
  version = refl;
  short_version = refl;
  standard_input = record { accepted = refl; named = refl };
  help_of_plain = refl;
  none = refl;
  unknown = refl;
  no_file = refl;
  two_files = refl;
  flag = refl;
}

pub workers_asked : WorkersAreAsked
unfolding clap_on_literals
workers_asked = record {
  asked = record { accepted = refl; named = refl };
  least = record { accepted = refl; named = refl };
  most = record { accepted = refl; named = refl };
  signed = record { accepted = refl; named = refl };
  joined = record { accepted = refl; named = refl };
  zero_workers = refl;
  too_many = refl;
  huge = refl;
  negative = refl;
  negative_joined = refl;
  no_number = refl;
  empty = refl;
  twice = refl;
  help = refl;
  no_workers = refl;
  no_file = refl;
}

pub batches_asked : BatchesAreAsked
unfolding clap_on_literals
batches_asked = record {
  asked = record { accepted = refl; named = refl };
  help = refl;
  no_file = refl;
  two_files = refl;
}

pub orders_asked : OrdersAreAsked
unfolding clap_on_literals
orders_asked = record {
  asked = record { accepted = refl; named = refl };
  none = record { accepted = refl; named = refl };
  least_and_most = record { accepted = refl; named = refl };
  signed = record { accepted = refl; named = refl };
  zero_number = refl;
  too_large = refl;
  huge = refl;
  later = refl;
  no_number = refl;
  negative = refl;
  help = refl;
  no_file = refl;
}
