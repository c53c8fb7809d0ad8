-- Each of them is one of the laws below.
use Rattle.air_world.proofs.laws.station_laws.Goals as goal

pub returns : goal.returns
returns c = record {
  server =
      record {
        hearing =
            record {
              hears = c.server_hears_law.ensures;
              heard = c.heard_law.ensures;
              sessions =
                  record {
                    entries = c.hearing_law.ensures;
                    fronts = c.front_law.ensures;
                    heard_front = c.heard_front_law.ensures;
                    current = c.current_law.ensures;
                    session = c.session_law.ensures;
                  };
              stay = c.stay_law.ensures;
              begin = c.begin_law.ensures;
            };
        ticks = c.server_ticks_law.ensures;
        left = c.left_law.ensures;
        some_step = c.some_step_law-2.ensures;
      };
  client =
      record {
        client = c.client_law.ensures;
        fronts = c.front_law.ensures;
        job = c.job_law.ensures;
        tasks = c.job_tasks_law.ensures;
        stay = c.stay_law.ensures;
        begin = c.begin_law.ensures;
        left = c.left_law.ensures;
        step = c.step_law.ensures;
        hearing = c.hearing_law-2.ensures;
        ticking = c.ticking_law.ensures;
        stands = c.stands_law.ensures.stays;
        calling = c.stands_law.ensures.calling;
      };
  client_steps = c.some_step_law.ensures;
}
