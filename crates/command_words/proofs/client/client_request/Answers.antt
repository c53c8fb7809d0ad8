-- DISK names a file and AIR an air, and the line gives what the command asks for.
use Rattle.command_words.proofs.Names.{IfOk-weaker}
use Rattle.command_words.proofs.Meanings.{air_text}
use Rattle.command_words.proofs.client.client_request.Goals as goal

pub returns-in-Send-clause-asks : goal.returns-in-Send-clause-asks
returns-in-Send-clause-asks c =
    let (named, form) = c.is_station.ensures.some c.if-not-is_station.false in
    rw c.in-Send.is (IfOk-weaker c.send_request.result _ _ (λ request asks. asks c.args.disk.now c.args.air.now named form) c.send_request.ensures.asks)

pub returns-in-Send-clause-refused : goal.returns-in-Send-clause-refused
returns-in-Send-clause-refused c = rw c.in-Send.is (λ usage (terms, name, asks). c.send_request.ensures.refused usage terms name (air_text asks))

pub returns-in-Fetch-clause-asks : goal.returns-in-Fetch-clause-asks
returns-in-Fetch-clause-asks c =
    let (named, form) = c.is_station.ensures.some c.if-not-is_station.false in
    rw c.in-Fetch.is (IfOk-weaker c.fetch_request.result _ _ (λ request asks. asks c.args.disk.now c.args.air.now named form) c.fetch_request.ensures.asks)

pub returns-in-Fetch-clause-refused : goal.returns-in-Fetch-clause-refused
returns-in-Fetch-clause-refused c = rw c.in-Fetch.is (λ usage (terms, number, name, asks). c.fetch_request.ensures.refused usage terms number name (air_text asks))

pub returns-in-List-clause-asks : goal.returns-in-List-clause-asks
returns-in-List-clause-asks c =
    let (named, form) = c.is_station.ensures.some c.if-not-is_station.false in
    rw c.in-List.is (IfOk-weaker c.list_request.result _ _ (λ request asks. asks c.args.disk.now c.args.air.now named form) c.list_request.ensures.asks)

pub returns-in-List-clause-refused : goal.returns-in-List-clause-refused
returns-in-List-clause-refused c = rw c.in-List.is (λ usage (terms, tokens, asks). c.list_request.ensures.refused usage terms tokens (air_text asks))
