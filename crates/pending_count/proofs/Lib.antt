mod CountLemmas
